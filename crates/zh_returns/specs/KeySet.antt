-- A set of keys in two tables: a block for each municipality, and marks for the lists of each block.
use Rattle.std.specs.Prelude.{◌≡◌, ℕ, ◌+◌, ◌-◌, ◌*◌, ◌/◌, ◌%◌, ◌^◌, ◌≤◌, ◌==◌, Bool, false, ◌&&◌, nat_lt, List, slice_index}

-- whether a place is marked; a byte has eight places, the lowest bit first
abbrev pub is_marked : List ℕ → ℕ → Bool
is_marked marks place = slice_index marks (place / 8) / 2 ^ (place % 8) % 2 == 1

-- whether the set has a key: its municipality has a block, and its list is marked there
abbrev pub has_mark : List ℕ → List ℕ → ℕ → ℕ → Bool
has_mark blocks marks municipality list =
    nat_lt 0 (slice_index blocks municipality) && is_marked marks ((slice_index blocks municipality - 1) * 256 + list)

-- only the first `count` blocks are in use: no municipality has a later one, no two have the same one, and no later one has a
-- mark
pub record AreBlocks (blocks marks : List ℕ) (count : ℕ) : Type 0 where
  pub most : (m : ℕ) → slice_index blocks m ≤ count
  pub own : (m n : ℕ) → 1 ≤ slice_index blocks m → slice_index blocks m ≡ slice_index blocks n → m ≡ n
  pub clear : (place : ℕ) → count * 256 ≤ place → is_marked marks place ≡ false
