use Rattle.std.proofs.Common.{◌≡◌, length, get_or, inl, inr, arith}
use Rattle.std.proofs.lemmas.Bool.{cases_lt}
use Rattle.zh_divisors.proofs.SumLemmas.{sum-zeros}
use Rattle.zh_divisors.proofs.WorthLemmas.{IsLeastLast-keep, IsLeastLast-seat, IsLeastLast-take}
use Rattle.zh_divisors.proofs.apportionment.least_last.Goals as goal
use Rattle.zh_divisors.proofs.apportionment.least_last.Goals.{then-last_is_worth_less, else-last_is_worth_less}

pub loop-i-preserved : goal.loop-i-preserved
loop-i-preserved c = elim c.if-last_is_worth_less.branch [
  | then-last_is_worth_less w ↦ grind (arith, IsLeastLast-take, IsLeastLast-seat)
  | else-last_is_worth_less w ↦ grind (arith, IsLeastLast-keep)
]

pub returns : goal.returns
returns c =
    let all : c.loop-i.i ≡ length c.args.weights.now = omega arith in
    elim (cases_lt 0 (get_or c.args.seats.now c.loop-i.least 0)) [
      | inl some ↦ rw (← all) (c.loop-i.invariant.some (omega arith))
      | inr none ↦ absurd (omega (
        arith,
        sum-zeros c.args.seats.now (λ k lt.
            c.loop-i.invariant.none (omega arith) k (omega (arith, c.requires.small.one_each))),
      ))
    ]
