use Rattle.std.proofs.Common.{◌∙◌, ap, codes}
use Rattle.clap.specs.Words.{found_of}
use Rattle.clap.proofs.WalkLemmas.{first_value-rows}
use Rattle.zh_arguments.specs.Seats.{layout_of, records_by}
use Rattle.zh_arguments.proofs.seats.layout_in.Goals as goal

pub returns : goal.returns
returns c =
    let records = c.records_by.ensures ∙ ap records_by (c.get_str.ensures ∙ first_value-rows (found_of c.args.given.now) (codes "of")) in
    c.layout_of.ensures ∙ (λ i. layout_of (records i) (c.has_flag.ensures i))
