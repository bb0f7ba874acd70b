-- The numbers below n.
use Rattle.std.proofs.Common.{ℕ, zero, suc, ◌<◌, inl, inr, arith, add-one, below_more}
use Rattle.std.specs.Prelude.{◌⊎◌}

-- if P or Q is true of each number, P is true of one below n, or Q of all
pub found_or_none : (P Q : ℕ → Type 0) → ((k : ℕ) → P k ⊎ Q k) → (n : ℕ) → ((k : ℕ) × (k < n) × P k) ⊎ ((k : ℕ) → k < n → Q k)
found_or_none P Q each zero = inr (λ k lt. absurd (omega (arith, lt)))
found_or_none P Q each (suc n) = elim (each n) [
  | inl here ↦ inl (n, omega arith, here)
  | inr not ↦ elim (found_or_none P Q each n) [
    | inl found ↦ inl (found.0, omega (arith, found.1), found.2)
    | inr none ↦ inr (rw add-one at (below_more Q n none not))
  ]
]
