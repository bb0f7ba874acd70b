use Rattle.std.proofs.Common.{arith}
use Rattle.zh_decided.specs.Bounds.{asked_in}
use Rattle.zh_decided.proofs.WithinLemmas.{at_most-at}
use Rattle.zh_decided.proofs.within.are_at_most.Goals as goal

pub returns-then-seats-place : goal.returns-then-seats-place
returns-then-seats-place c = (
  λ is d g dm gn. cc,
  λ each. absurd (omega (
    arith,
    at_most-at (asked_in c.args.bounds.now) c.args.bounds.now.most.now c.args.seats.now c.loop-place.place
        (omega (arith, c.requires, c.loop-place-test.true)) each,
    c.if-seats-place.true,
  )),
)
