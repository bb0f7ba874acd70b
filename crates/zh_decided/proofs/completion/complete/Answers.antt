use Rattle.std.proofs.Common.{arith}
use Rattle.zh_decided.specs.Bounds.{asked_in, bounds_of}
use Rattle.zh_decided.proofs.CutLemmas.{all_placed}
use Rattle.zh_decided.proofs.completion.complete.Goals as goal

pub returns-clause-within : goal.returns-clause-within
returns-clause-within c =
    all_placed (asked_in c.args.bounds.now) (bounds_of c.args.bounds.now) c.loop-seat.seats c.requires.balanced c.loop-seat.invariant.each
    (omega (arith, c.loop-seat.invariant.so_far, c.loop-seat-test.false, c.loop-seat.auto._seat-end))
