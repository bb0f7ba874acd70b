use Rattle.std.proofs.Common.{◌∙◌, ℕ, List, ap, slice_set}
use Rattle.zh_returns.specs.Payload.{zeros}
use Rattle.zh_returns.proofs.FormatLemmas.{format_written}
use Rattle.zh_returns.proofs.payload.write_format.Goals as goal

pub returns : goal.returns
returns c = ap (λ (bytes : List ℕ). slice_set bytes 0 2) (c.write_zeros.ensures ∙ ap zeros c.requires) ∙ format_written 174 2
