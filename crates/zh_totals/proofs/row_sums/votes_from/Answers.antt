use Rattle.std.proofs.Common.{ℕ, ◌+◌, get_or, arith}
use Rattle.zh_divisors.proofs.CallerLemmas.{sum_to-fewer, sum_to-suc}
use Rattle.zh_totals.proofs.row_sums.votes_from.Goals as goal

pub returns-then-more-sum : goal.returns-then-more-sum
returns-then-more-sum c =
    let term : ℕ → ℕ = λ j. get_or c.args.votes.now (c.args.first + j) 0 in
    let place : ℕ = c.loop-place.place in
    omega (
      arith,
      c.loop-place.invariant.0,
      c.loop-place.invariant.1,
      sum_to-suc place term,
      sum_to-fewer (place + 1) c.args.count term (omega (arith, c.loop-place-test.true)),
      c.if-more-sum.true,
    )
