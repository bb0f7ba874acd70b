use Rattle.std.proofs.Common.{◌≡◌, ◌*◌, arith}
use Rattle.std.proofs.lemmas.List.FromFn.{fill_by_all}
use Rattle.zh_matrices.specs.Asked.{asked}
use Rattle.zh_lower.specs.SearchRooms.{divisors_of}
use Rattle.zh_lower.specs.SeatBounds.{least_at, most_at}
use Rattle.zh_lower.proofs.FilledLemmas.{each_set}
use Rattle.zh_lower.proofs.tie.bound_cells.Goals as goal

pub least_at-requires-clause-place : goal.least_at-requires-clause-place
least_at-requires-clause-place c = omega (arith, c.args.question.now.sized.length_votes)

pub bounds-least-place : goal.bounds-least-place
bounds-least-place c = omega (arith, c.args.question.now.sized.length_votes)

pub most_at-requires-clause-place : goal.most_at-requires-clause-place
most_at-requires-clause-place c = omega (arith, c.args.question.now.sized.length_votes)

pub bounds-most-place : goal.bounds-most-place
bounds-most-place c = omega (arith, c.args.question.now.sized.length_votes)

pub loop-place-preserved : goal.loop-place-preserved
loop-place-preserved c = record {
  least = each_set (λ k x. x ≡ least_at (asked c.args.question.now) (divisors_of c.args.state.now) k) c.loop-place.least c.loop-place.place c.least_at.result
      (omega (arith, c.args.question.now.sized.length_votes)) c.least_at.ensures c.loop-place.invariant.least;
  most = each_set (λ k x. x ≡ most_at (asked c.args.question.now) (divisors_of c.args.state.now) k) c.loop-place.most c.loop-place.place c.most_at.result
      (omega (arith, c.args.question.now.sized.length_votes)) c.most_at.ensures c.loop-place.invariant.most;
}

pub returns-clause-least : goal.returns-clause-least
returns-clause-least c =
    fill_by_all (least_at (asked c.args.question.now) (divisors_of c.args.state.now)) c.loop-place.least
    (c.args.question.now.rows * c.args.question.now.columns) 0 (omega (arith, c.loop-place.auto.least, c.requires.least))
    (λ k lt. c.loop-place.invariant.least k (omega (arith, c.loop-place-test.false, c.args.question.now.sized.length_votes, lt)))

pub returns-clause-most : goal.returns-clause-most
returns-clause-most c =
    fill_by_all (most_at (asked c.args.question.now) (divisors_of c.args.state.now)) c.loop-place.most
    (c.args.question.now.rows * c.args.question.now.columns) 0 (omega (arith, c.loop-place.auto.most, c.requires.most))
    (λ k lt. c.loop-place.invariant.most k (omega (arith, c.loop-place-test.false, c.args.question.now.sized.length_votes, lt)))
