use Rattle.std.proofs.Common.{◌∙◌, sym, eq-eqb}
use Rattle.std.proofs.lemmas.Bool.{eqb-true}
use Rattle.zh_check.proofs.CellLemmas.{follow_half, follow_to}
use Rattle.zh_check.proofs.lists.do_seats_follow.Goals as goal

pub returns-in-RoundsTo : goal.returns-in-RoundsTo
returns-in-RoundsTo c =
    let both = follow_to c.args.list c.in-RoundsTo.number c.in-RoundsTo.ensures in (
      λ yes. both.0 (eqb-true c.in-RoundsTo.number c.from.result yes ∙ c.from.ensures),
      λ follow. eq-eqb c.in-RoundsTo.number c.from.result (both.1 follow ∙ sym c.from.ensures),
    )

pub returns-in-OnHalf : goal.returns-in-OnHalf
returns-in-OnHalf c = (λ no. absurd (cc), λ follow. absurd (follow_half c.args.list c.in-OnHalf.ensures follow))
