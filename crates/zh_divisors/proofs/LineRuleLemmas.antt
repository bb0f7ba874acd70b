-- The two numbers of the definition are those of the rule.
use Rattle.std.proofs.Common.{◌≡◌, ℕ, ◌*◌, ◌<◌, ◌≤◌, ◌^◌, Bool, nat_le, inl, inr, arith}
use Rattle.std.proofs.lemmas.Bool.{cases_lt, leb-true, leb-false}
use Rattle.std.proofs.Math.Nat.{mul-le-mul_left, mul-le-mul_right, le_antisymm}
use Rattle.zh_divisors.specs.Sums.{sum_to}
use Rattle.zh_divisors.specs.Line.{IsLeastDivisor, IsGreatestDivisor, half_up, half_down, half_up_total, half_down_total, least_divisor, greatest_divisor, limit_of}
use Rattle.zh_divisors.proofs.FiniteSumLemmas.{half_up-at_most, half_down-at_most, sum_to-zero, term-le-sum_to}
use Rattle.zh_divisors.proofs.PassingLemmas.{least_passing-from_1, least_passing-at, least_passing-below, greatest_passing-at, greatest_passing-above}

-- beyond the limit each quotient is below a half
beyond : (n : ℕ) (votes others : ℕ → ℕ) (unit D : ℕ) → ((i : ℕ) → i < n → 1 ≤ others i) → 2 * unit * sum_to n votes < D →
    (i : ℕ) → i < n → 2 * (votes i * unit) < others i * D
beyond n votes others unit D positive above i iw =
    let at = mul-le-mul_left (2 * unit) (term-le-sum_to n votes i iw) in
    let one = mul-le-mul_right D (positive i iw) in
    omega (arith, at, one)

up_beyond : (n : ℕ) (votes others : ℕ → ℕ) (unit D : ℕ) → ((i : ℕ) → i < n → 1 ≤ others i) → 2 * unit * sum_to n votes < D →
    sum_to n (λ i. half_up (votes i * unit) (others i * D)) ≡ 0
up_beyond n votes others unit D positive above =
    sum_to-zero n _ (λ i iw.
    let small = beyond n votes others unit D positive above i iw in
    omega (arith, half_up-at_most (votes i * unit) (others i * D) 0 (omega arith) (omega arith)))

down_beyond : (n : ℕ) (votes others : ℕ → ℕ) (unit D : ℕ) → ((i : ℕ) → i < n → 1 ≤ others i) → 2 * unit * sum_to n votes < D →
    sum_to n (λ i. half_down (votes i * unit) (others i * D)) ≡ 0
down_beyond n votes others unit D positive above =
    sum_to-zero n _ (λ i iw.
    let small = beyond n votes others unit D positive above i iw in
    omega (arith, half_down-at_most (votes i * unit) (others i * D) 0 (omega arith) (omega arith)))

pub IsLeastDivisor-is : (n : ℕ) (votes others : ℕ → ℕ) (target : ℕ) → ((i : ℕ) → i < n → 1 ≤ others i) →
    IsLeastDivisor n votes others target (least_divisor n votes others target)
unfolding limit_of
IsLeastDivisor-is n votes others target positive =
    let passes : ℕ → Bool = λ D. nat_le (half_up_total n votes others D) target in
    let limit : ℕ = limit_of n votes in
    record {
      from_1 = least_passing-from_1 passes limit;
      at_most = elim (least_passing-at passes limit) [
        | inl pass ↦ leb-true _ _ pass
        | inr is ↦
            let none = up_beyond n votes others (10 ^ 12) (least_divisor n votes others target) positive (omega (arith, is)) in
            omega (arith, none)
      ];
      least = λ D one few. elim (cases_lt D (least_divisor n votes others target)) [
        | inl less ↦ absurd (omega (arith, few, leb-false _ _ (least_passing-below passes limit D one less)))
        | inr le ↦ le
      ];
    }

pub IsGreatestDivisor-is : (n : ℕ) (votes others : ℕ → ℕ) (target : ℕ) → ((i : ℕ) → i < n → 1 ≤ others i) → 1 ≤ target →
    IsGreatestDivisor n votes others target (greatest_divisor n votes others target)
unfolding limit_of
IsGreatestDivisor-is n votes others target positive some =
    let passes : ℕ → Bool = λ D. nat_le target (half_down_total n votes others D) in
    let limit : ℕ = limit_of n votes in
    record {
      at_least = λ one. leb-true _ _ (greatest_passing-at passes limit one);
      greatest = λ D one many. elim (cases_lt (greatest_divisor n votes others target) D) [
        | inl more ↦ elim (cases_lt limit D) [
          | inl far ↦ absurd (omega (arith, many, down_beyond n votes others (10 ^ 12) D positive far))
          | inr near ↦ absurd (omega (arith, many, leb-false _ _ (greatest_passing-above passes limit D more near)))
        ]
        | inr le ↦ le
      ];
    }

pub one_least : (n : ℕ) (votes others : ℕ → ℕ) (target x y : ℕ) → IsLeastDivisor n votes others target x → IsLeastDivisor n votes others target y → x ≡ y
one_least n votes others target x y at_x at_y =
    le_antisymm (at_x.least y at_y.from_1 at_y.at_most) (at_y.least x at_x.from_1 at_x.at_most)

above : (n : ℕ) (votes others : ℕ → ℕ) (target x y : ℕ) → IsGreatestDivisor n votes others target x → IsGreatestDivisor n votes others target y → x ≤ y
above n votes others target x y at_x at_y = elim (cases_lt 0 x) [
  | inl some ↦ at_y.greatest x some (at_x.at_least some)
  | inr none ↦ omega arith
]

pub one_greatest : (n : ℕ) (votes others : ℕ → ℕ) (target x y : ℕ) → IsGreatestDivisor n votes others target x → IsGreatestDivisor n votes others target y → x ≡ y
one_greatest n votes others target x y at_x at_y =
    le_antisymm (above n votes others target x y at_x at_y) (above n votes others target y x at_y at_x)
