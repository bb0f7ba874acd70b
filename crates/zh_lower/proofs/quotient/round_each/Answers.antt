use Rattle.std.proofs.Common.{◌*◌, arith}
use Rattle.std.proofs.lemmas.List.FromFn.{fill_by_all}
use Rattle.zh_matrices.specs.Asked.{asked}
use Rattle.zh_lower.specs.Places.{no_quotient, quotient_at, rounded_at}
use Rattle.zh_lower.specs.SearchRooms.{divisors_of}
use Rattle.zh_lower.proofs.quotient.round_each.Goals as goal

pub returns-clause-quotients : goal.returns-clause-quotients
returns-clause-quotients c =
    fill_by_all (quotient_at (asked c.args.question.now) (divisors_of c.args.state.now)) c.loop-place.quotients
    (c.args.question.now.rows * c.args.question.now.columns) no_quotient (omega (arith, c.loop-place.auto.quotients, c.requires.quotients))
    (λ k lt. c.loop-place.invariant.quotients k (omega (arith, c.loop-place-test.false, c.args.question.now.sized.length_votes, lt)))

pub returns-clause-seats : goal.returns-clause-seats
returns-clause-seats c =
    fill_by_all (rounded_at (asked c.args.question.now) (divisors_of c.args.state.now)) c.loop-place.seats
    (c.args.question.now.rows * c.args.question.now.columns) 0 (omega (arith, c.loop-place.auto.seats, c.requires.seats))
    (λ k lt. c.loop-place.invariant.seats k (omega (arith, c.loop-place-test.false, c.args.question.now.sized.length_votes, lt)))
