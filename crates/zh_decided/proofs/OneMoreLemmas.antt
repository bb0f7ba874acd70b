-- Sums in which one term changes.
use Rattle.std.proofs.Common.{◌≡◌, ◌≢◌, ℕ, zero, suc, ◌+◌, ◌<◌, ◌≤◌, refl, arith}
use Rattle.zh_divisors.specs.Sums.{sum_to}
use Rattle.zh_divisors.proofs.CallerLemmas.{sum_to-changed, sum_to-zero}

-- a sum changes as its one changed term does
pub sum_to-shifted : (n : ℕ) (f g : ℕ → ℕ) (j x y : ℕ) → j < n → ((i : ℕ) → i < n → i ≢ j → f i ≡ g i) → f j + x ≡ g j + y →
    sum_to n f + x ≡ sum_to n g + y
sum_to-shifted n f g j x y within same here = omega (arith, sum_to-changed n f g j within same, here)

pub sum_to-lowered : (n : ℕ) (f g : ℕ → ℕ) (j x y : ℕ) → j < n → ((i : ℕ) → i < n → i ≢ j → f i ≡ g i) → f j + x ≤ g j + y →
    sum_to n f + x ≤ sum_to n g + y
sum_to-lowered n f g j x y within same here = omega (arith, sum_to-changed n f g j within same, here)

-- all terms but one are 0
pub sum_to-single : (n : ℕ) (f : ℕ → ℕ) (j : ℕ) → j < n → ((i : ℕ) → i < n → i ≢ j → f i ≡ 0) → sum_to n f ≡ f j
sum_to-single n f j within none =
    omega (arith, sum_to-changed n f (λ i. 0) j within none, sum_to-zero n (λ i. 0) (λ i lt. refl))

-- one term grows by one
pub sum_to-one_more : (n : ℕ) (f g : ℕ → ℕ) (j : ℕ) → j < n → ((i : ℕ) → i < n → i ≢ j → g i ≡ f i) → g j ≡ f j + 1 → sum_to n g ≡ sum_to n f + 1
sum_to-one_more n f g j within same more = omega (arith, sum_to-changed n g f j within same, more)

pub sum_to-ones : (n : ℕ) → sum_to n (λ i. 1) ≡ n
sum_to-ones zero = refl
sum_to-ones (suc n) = omega (arith, sum_to-ones n)
