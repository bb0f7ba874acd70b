-- Finite sums and rounding.
use Rattle.std.proofs.Common.{◌≡◌, ◌≢◌, ℕ, zero, suc, ◌+◌, ◌-◌, ◌*◌, ◌/◌, ◌<◌, ◌≤◌, refl, inl, inr, sym, arith, add-one}
use Rattle.std.proofs.lemmas.Bool.{cases_eq, cases_lt}
use Rattle.std.proofs.Math.Nat.{le-div_iff_mul-le, div-lt_iff_lt-mul}
use Rattle.zh_divisors.specs.Line.{half_up, half_down}
use Rattle.zh_divisors.specs.Sums.{sum_to}
use Rattle.zh_divisors.proofs.BelowLemmas.{found_or_none}

pub sum_to-suc : (n : ℕ) (f : ℕ → ℕ) → sum_to (n + 1) f ≡ sum_to n f + f n
sum_to-suc n f = rw add-one refl

pub sum_to-ext : (n : ℕ) (f g : ℕ → ℕ) → ((i : ℕ) → i < n → f i ≡ g i) → sum_to n f ≡ sum_to n g
sum_to-ext zero f g same = refl
sum_to-ext (suc n) f g same =
    omega (arith, sum_to-ext n f g (λ i lt. same i (omega arith)), same n (omega arith))

pub sum_to-zero : (n : ℕ) (f : ℕ → ℕ) → ((i : ℕ) → i < n → f i ≡ 0) → sum_to n f ≡ 0
sum_to-zero zero f none = refl
sum_to-zero (suc n) f none = omega (arith, none n (omega arith), sum_to-zero n f (λ i lt. none i (omega arith)))

pub sum_to-le : (n : ℕ) (f g : ℕ → ℕ) → ((i : ℕ) → i < n → f i ≤ g i) → sum_to n f ≤ sum_to n g
sum_to-le zero f g below = omega arith
sum_to-le (suc n) f g below =
    omega (arith, sum_to-le n f g (λ i lt. below i (omega arith)), below n (omega arith))

-- no term is greater, and one is less
pub sum_to-lt : (n : ℕ) (f g : ℕ → ℕ) (j : ℕ) → ((i : ℕ) → i < n → f i ≤ g i) → j < n → f j < g j → sum_to n f < sum_to n g
sum_to-lt zero f g j below within less = absurd (omega arith)
sum_to-lt (suc n) f g j below within less =
    elim (cases_eq j n) [
      | inl is ↦
          let here : f n < g n = rw (← is) less in
          omega (arith, sum_to-le n f g (λ i lt. below i (omega arith)), here)
      | inr other ↦ omega (arith, sum_to-lt n f g j (λ i lt. below i (omega arith)) (omega arith) less, below n (omega arith))
    ]

-- one term changes
pub sum_to-changed : (n : ℕ) (f g : ℕ → ℕ) (j : ℕ) → j < n → ((i : ℕ) → i < n → i ≢ j → f i ≡ g i) → sum_to n f + g j ≡ sum_to n g + f j
sum_to-changed zero f g j within same = absurd (omega arith)
sum_to-changed (suc n) f g j within same = elim (cases_eq j n) [
  | inl is ↦
      let before : sum_to n f ≡ sum_to n g = sum_to-ext n f g (λ i lt. same i (omega arith) (λ e. omega (arith, e))) in
      rw is (omega (arith, before))
  | inr other ↦
      let before : sum_to n f + g j ≡ sum_to n g + f j
      = sum_to-changed n f g j (omega arith) (λ i lt ne. same i (omega arith) ne) in
      let here : f n ≡ g n = same n (omega arith) (λ e. other (sym e)) in
      omega (arith, before, here)
]

-- the first terms add up to at most the whole sum
pub sum_to-fewer : (n m : ℕ) (f : ℕ → ℕ) → n ≤ m → sum_to n f ≤ sum_to m f
sum_to-fewer n zero f le = let none : n ≡ 0 = omega arith in rw none (omega arith)
sum_to-fewer n (suc m) f le = elim (cases_eq n (suc m)) [
  | inl all ↦ rw all (omega arith)
  | inr less ↦ omega (arith, sum_to-fewer n m f (omega arith))
]

-- a term is at most the sum
pub term-le-sum_to : (n : ℕ) (f : ℕ → ℕ) (i : ℕ) → i < n → f i ≤ sum_to n f
term-le-sum_to zero f i lt = absurd (omega arith)
term-le-sum_to (suc n) f i lt = elim (cases_eq i n) [
  | inl is ↦ rw is (omega arith)
  | inr other ↦ omega (arith, term-le-sum_to n f i (omega arith))
]

-- a positive sum has a positive term
pub positive_term : (n : ℕ) (f : ℕ → ℕ) → 0 < sum_to n f → (i : ℕ) × (i < n) × (0 < f i)
positive_term n f some = elim (found_or_none (λ i. 0 < f i) (λ i. f i ≤ 0) (λ i. cases_lt 0 (f i)) n) [
  | inl found ↦ found
  | inr none ↦ absurd (omega (arith, some, sum_to-zero n f (λ i lt. omega (arith, none i lt))))
]

-- rounding half up and half down, compared with the half above a number
pub half_up-at_most : (n p s : ℕ) → 0 < p → 2 * n < (2 * s + 1) * p → half_up n p ≤ s
half_up-at_most n p s pos h =
    let twice : 0 < 2 * p = omega arith in
    let less : (2 * n + p) / (2 * p) < s + 1 = (div-lt_iff_lt-mul twice).1 (omega arith) in
    omega arith

pub half_up-at_least : (n p s : ℕ) → 0 < p → (2 * s + 1) * p ≤ 2 * n → s < half_up n p
half_up-at_least n p s pos h =
    let twice : 0 < 2 * p = omega arith in
    (le-div_iff_mul-le twice).1 (omega arith)

pub half_down-at_most : (n p s : ℕ) → 0 < p → 2 * n ≤ (2 * s + 1) * p → half_down n p ≤ s
half_down-at_most n p s pos h =
    let twice : 0 < 2 * p = omega arith in
    let less : (2 * n + p - 1) / (2 * p) < s + 1 = (div-lt_iff_lt-mul twice).1 (omega arith) in
    omega arith

pub half_down-at_least : (n p s : ℕ) → 0 < p → (2 * s + 1) * p < 2 * n → s < half_down n p
half_down-at_least n p s pos h =
    let twice : 0 < 2 * p = omega arith in
    (le-div_iff_mul-le twice).1 (omega arith)
