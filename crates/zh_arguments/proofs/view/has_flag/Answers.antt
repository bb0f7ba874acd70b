use Rattle.std.proofs.Common.{◌∙◌, ap, codes}
use Rattle.std.specs.Str.{bytes_eq}
use Rattle.clap.specs.Words.{Text}
use Rattle.zh_arguments.proofs.view.has_flag.Goals as goal

pub returns : goal.returns
returns c = c.eq.ensures ∙ ap (λ (text : Text). bytes_eq text (codes "true")) c.path_in.ensures
