use Rattle.std.proofs.Common.{ℕ, ◌+◌, ◌*◌, ◌≤◌, arith}
use Rattle.std.proofs.Math.Nat.{mul-le-mul_right}
use Rattle.zh_divisors.proofs.CallerLemmas.{sum_to-fewer, sum_to-suc, term-le-sum_to}
use Rattle.zh_totals.specs.GivenVotes.{votes_from}
use Rattle.zh_totals.proofs.GivenVotesLemmas.{row_added}
use Rattle.zh_totals.proofs.row_sums.row_sums.Goals as goal

pub returns-in_default : goal.returns-in_default
returns-in_default c =
    let term : ℕ → ℕ = λ d. votes_from c.args.votes.now (d * c.args.columns) c.args.columns in
    omega (arith, c.in_default.ensures, term-le-sum_to c.args.rows term c.loop-row.row c.loop-row-test.true)

pub returns-then-sum-all : goal.returns-then-sum-all
returns-then-sum-all c =
    let term : ℕ → ℕ = λ d. votes_from c.args.votes.now (d * c.args.columns) c.args.columns in
    let row : ℕ = c.loop-row.row in
    omega (
      arith,
      c.loop-row.invariant.0,
      c.in-Some.ensures.0,
      sum_to-suc row term,
      sum_to-fewer (row + 1) c.args.rows term (omega (arith, c.loop-row-test.true)),
      c.if-sum-all.true,
    )

pub loop-row-preserved : goal.loop-row-preserved
loop-row-preserved c =
    let term : ℕ → ℕ = λ d. votes_from c.args.votes.now (d * c.args.columns) c.args.columns in
    let row : ℕ = c.loop-row.row in (
      omega (arith, c.loop-row.invariant.0, c.in-Some.ensures.0, sum_to-suc row term),
      row_added c.args.votes.now c.args.columns row c.loop-row.sums.items c.push.new.self.items c.in-Some.sum c.loop-row.invariant.1 c.in-Some.ensures.0
          (omega (arith, c.loop-row.invariant.0, c.loop-row.invariant.1.most, c.if-sum-all.false)) c.in_ok-push.ensures.items,
    )

pub votes_from-requires : goal.votes_from-requires
votes_from-requires c =
    let rows : (c.loop-row.row + 1) * c.args.columns ≤ c.args.rows * c.args.columns = mul-le-mul_right c.args.columns (omega (arith, c.loop-row-test.true)) in
    omega (arith, rows, c.requires.each)

pub overflow_mul-row : goal.overflow_mul-row
overflow_mul-row c =
    let rows : c.loop-row.row * c.args.columns ≤ 32 * c.args.columns = mul-le-mul_right c.args.columns (omega (arith, c.loop-row-test.true, c.requires.rows)) in
    omega (arith, rows, c.requires.columns)
