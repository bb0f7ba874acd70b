use Rattle.std.proofs.lemmas.Bool.{OnFalse_from, ltb-false}
use Rattle.zh_decided.specs.Bounds.{asked_in, bounds_of}
use Rattle.zh_lower.proofs.LotLemmas.{fixed_by_bounds}
use Rattle.zh_lower.proofs.tie.may_change.Goals as goal

pub returns-else-bounds-place-clause-same : goal.returns-else-bounds-place-clause-same
returns-else-bounds-place-clause-same c = OnFalse_from _ _ (λ not_open.
    fixed_by_bounds (asked_in c.args.bounds.now) (bounds_of c.args.bounds.now) c.args.seats.now c.args.place c.requires.place c.requires.within
    (ltb-false _ _ not_open))
