-- The two divisors of the rule, from the seats that were given.
use Rattle.std.proofs.Common.{◌≡◌, ℕ, ◌+◌, ◌-◌, ◌*◌, ◌/◌, ◌^◌, ◌<◌, ◌≤◌, List, length, get_or, slice_index, inl, inr, ap, ◌∙◌, arith}
use Rattle.std.proofs.lemmas.Bool.{cases_lt}
use Rattle.std.proofs.Math.Nat.{le-div_iff_mul-le, div-lt_iff_lt-mul, lt-mul-div-succ, div-mul-le_self}
use Rattle.zh_divisors.specs.Line.{IsMatrixLine, IsLeastDivisor, IsGreatestDivisor, least_divisor, greatest_divisor, line_divisor, clamped}
use Rattle.zh_divisors.specs.LineSeats.{AreGiven, IsLastCell, IsNextCell, next_signpost, last_signpost}
use Rattle.zh_divisors.proofs.LineRuleLemmas.{IsLeastDivisor-is, IsGreatestDivisor-is, one_least, one_greatest}
use Rattle.zh_divisors.proofs.LineSeatsLemmas.{positive_next, positive_last, positive_other}
use Rattle.zh_divisors.proofs.LineTotalsLemmas.{up_few, up_many, down_few, down_many}

pub IsLeastDivisor-next : (votes others seats : List ℕ) (given j : ℕ) → IsMatrixLine votes others → AreGiven votes others seats given →
    IsNextCell votes others seats (length votes) j →
    IsLeastDivisor (length votes) (slice_index votes) (slice_index others) given
    (2 * (get_or votes j 0 * 10 ^ 12) / next_signpost others seats j + 1)
IsLeastDivisor-next votes others seats given j line fit next =
    let a : ℕ = 2 * (get_or votes j 0 * 10 ^ 12) in
    let b : ℕ = next_signpost others seats j in
    let positive : 0 < b = positive_next votes others seats j line next.within in
    record {
      from_1 = omega arith;
      at_most = up_few votes others seats given j (10 ^ 12) (a / b + 1) line fit next (omega arith)
          (omega (arith, lt-mul-div-succ a positive));
      least = λ D one few. elim (cases_lt D (a / b + 1)) [
        | inl less ↦
            let small : D * b ≤ a = (le-div_iff_mul-le positive).0 (omega arith) in
            absurd (omega (arith, few, up_many votes others seats given j (10 ^ 12) D line fit next one (omega (arith, small))))
        | inr le ↦ le
      ];
    }

pub IsGreatestDivisor-last : (votes others seats : List ℕ) (given i : ℕ) → IsMatrixLine votes others → AreGiven votes others seats given →
    IsLastCell votes others seats i →
    IsGreatestDivisor (length votes) (slice_index votes) (slice_index others) given
    ((2 * (get_or votes i 0 * 10 ^ 12) - 1) / last_signpost others seats i)
IsGreatestDivisor-last votes others seats given i line fit last =
    let a : ℕ = 2 * (get_or votes i 0 * 10 ^ 12) - 1 in
    let b : ℕ = last_signpost others seats i in
    let positive : 0 < b = positive_last votes others seats i line last.within last.seated in
    let some = last.positive in
    record {
      at_least = λ one. down_many votes others seats given i (10 ^ 12) (a / b) line fit last one
          (omega (arith, some, div-mul-le_self a b));
      greatest = λ D one many. elim (cases_lt (a / b) D) [
        | inl more ↦
            let big : a < D * b = (div-lt_iff_lt-mul positive).0 more in
            absurd (omega (arith, many, down_few votes others seats given i (10 ^ 12) D line fit last one (omega (arith, some, big))))
        | inr le ↦ le
      ];
    }

-- so the two numbers that the code computes give the divisor
pub line_divisor-is : (votes others seats : List ℕ) (target i j most least greatest : ℕ) → IsMatrixLine votes others → 1 ≤ target →
    AreGiven votes others seats target → IsLastCell votes others seats i → IsNextCell votes others seats (length votes) j →
    least ≡ 2 * (get_or votes j 0 * 10 ^ 12) / next_signpost others seats j + 1 →
    greatest ≡ (2 * (get_or votes i 0 * 10 ^ 12) - 1) / last_signpost others seats i →
    clamped most ((least + greatest) / 2) ≡ line_divisor (length votes) (slice_index votes) (slice_index others) target most
line_divisor-is votes others seats target i j most least greatest line some fit last next least_is greatest_is =
    let positive : (k : ℕ) → k < length votes → 1 ≤ get_or others k 0 = λ k kw. positive_other votes others k line kw in
    let low : least ≡ least_divisor (length votes) (slice_index votes) (slice_index others) target
    = least_is ∙ one_least _ _ _ _ _ _ (IsLeastDivisor-next votes others seats target j line fit next) (IsLeastDivisor-is _ _ _ _ positive) in
    let high : greatest ≡ greatest_divisor (length votes) (slice_index votes) (slice_index others) target
    = greatest_is ∙ one_greatest _ _ _ _ _ _ (IsGreatestDivisor-last votes others seats target i line fit last)
    (IsGreatestDivisor-is _ _ _ _ positive some) in
    ap (λ x. clamped most (x / 2)) (ap (λ x. x + greatest) low ∙ ap (λ x. least_divisor (length votes) (slice_index votes) (slice_index others) target + x) high)
