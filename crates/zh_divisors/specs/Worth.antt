-- The seats that an apportionment gave last and would give next.
use Rattle.std.specs.Prelude.{ℕ, ◌+◌, ◌-◌, ◌*◌, ◌<◌, ◌≤◌, List, slice_index}

-- among the first n weights, i is the first whose last seat is worth least, that is, its weight over 2 * seats - 1
pub record IsLeastLast (weights seats : List ℕ) (n i : ℕ) : Type 0 where
  pub within : i < n
  pub seated : 1 ≤ slice_index seats i
  pub least : (k : ℕ) → k < n → 1 ≤ slice_index seats k →
      slice_index weights i * (2 * slice_index seats k - 1) ≤ slice_index weights k * (2 * slice_index seats i - 1)
  pub first : (k : ℕ) → k < i → 1 ≤ slice_index seats k →
      slice_index weights i * (2 * slice_index seats k - 1) < slice_index weights k * (2 * slice_index seats i - 1)

-- among the first n weights, j is the first whose next seat is worth most, that is, its weight over 2 * seats + 1
pub record IsMostNext (weights seats : List ℕ) (n j : ℕ) : Type 0 where
  pub within : j < n
  pub most : (k : ℕ) → k < n →
      slice_index weights k * (2 * slice_index seats j + 1) ≤ slice_index weights j * (2 * slice_index seats k + 1)
  pub first : (k : ℕ) → k < j →
      slice_index weights k * (2 * slice_index seats j + 1) < slice_index weights j * (2 * slice_index seats k + 1)
