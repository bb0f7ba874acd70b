-- Seats that are worth the same.
use Rattle.std.specs.Prelude.{◌≡◌, ◌⊎◌, ℕ, ◌+◌, ◌-◌, ◌*◌, ◌≤◌, List, slice_index}

-- the next seat or the last seat of k is worth as much as the last seat of i
abbrev pub IsWorthAsMuch : List ℕ → List ℕ → ℕ → ℕ → Type 0
IsWorthAsMuch weights seats i k =
    let claim = slice_index weights k * (2 * slice_index seats i - 1) in
    (claim ≡ slice_index weights i * (2 * slice_index seats k + 1))
    ⊎ ((1 ≤ slice_index seats k) × (claim ≡ slice_index weights i * (2 * slice_index seats k - 1)))
