-- Consecutive numbers.
use Rattle.std.proofs.Common.{◌≡◌, ◌<◌, ◌+◌, ◌∙◌, ℕ, zero, suc, length, get_or, refl, arith}
use Rattle.zh_returns.specs.Payload.{numbers}

pub length-numbers : (first n : ℕ) → length (numbers first n) ≡ n
unfolding numbers
length-numbers first zero = refl
length-numbers first (suc n) = let e = length-numbers (first + 1) n in omega arith

pub get_or-numbers : (first n i d : ℕ) → i < n → get_or (numbers first n) i d ≡ first + i
unfolding numbers
get_or-numbers first zero i d within = absurd (omega arith)
get_or-numbers first (suc n) zero d within = omega arith
get_or-numbers first (suc n) (suc i) d within = get_or-numbers (first + 1) n i d (omega arith) ∙ omega arith

-- the same from 0 on
pub get_or-count : (n i d : ℕ) → i < n → get_or (numbers 0 n) i d ≡ i
get_or-count n i d within = get_or-numbers 0 n i d within ∙ omega arith
