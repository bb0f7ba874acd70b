-- The quotients of a line, out of those that are stored for all cells.
use Rattle.std.specs.Prelude.{ℕ, zero, suc, Bool, false, not, ◌||◌, ◌==◌, List, slice_index_or}
use Rattle.zh_divisors.specs.Sums.{sum_to}
use Rattle.zh_lower.specs.Places.{no_quotient}
use Rattle.zh_lower.specs.declared.quotient.Quotient.{Quotient}

-- one of f 0 to f (n - 1) is true
abbrev pub some_to : ℕ → (ℕ → Bool) → Bool
some_to zero f = false
some_to (suc n) f = some_to n f || f n

abbrev pub kept_at : List Quotient → ℕ → Quotient
kept_at quotients place = slice_index_or quotients place no_quotient

-- the quotients of n cells, rounded half up, do not add up to the total, or one of them lies on a half
abbrev pub are_unsettled : ℕ → (ℕ → Quotient) → ℕ → Bool
are_unsettled n cells total = not (sum_to n (λ i. (cells i).rounded) == total) || some_to n (λ i. (cells i).is_half)
