-- Seats of a line, given one by one.
use Rattle.std.specs.Prelude.{◌≡◌, ℕ, ◌+◌, ◌-◌, ◌*◌, ◌<◌, ◌≤◌, List, length, slice_index}
use Rattle.zh_divisors.specs.Line.{IsMatrixLine}
use Rattle.zh_divisors.specs.Sums.{sum_to}

-- a cell's next seat is worth its votes over this: the doubled signpost, 2 (s + 1/2), times the other divisor
abbrev pub next_signpost : List ℕ → List ℕ → ℕ → ℕ
next_signpost others seats k = slice_index others k * (2 * slice_index seats k + 1)

-- a cell's last seat is worth its votes over this: the doubled signpost, 2 (s - 1/2), times the other divisor
abbrev pub last_signpost : List ℕ → List ℕ → ℕ → ℕ
last_signpost others seats k = slice_index others k * (2 * slice_index seats k - 1)

-- a line with seats, few enough for the products of votes and signposts to fit into 128 bits
pub record IsSmallLine (votes others seats : List ℕ) : Type 0 where
  pub line : IsMatrixLine votes others
  pub room : length votes ≤ length seats
  pub each_seat : (k : ℕ) → k < length votes → slice_index seats k ≤ 400

-- among the first n cells, the next seat of j is worth most
pub record IsNextCell (votes others seats : List ℕ) (n j : ℕ) : Type 0 where
  pub within : j < n
  pub most : (k : ℕ) → k < n →
      slice_index votes k * next_signpost others seats j ≤ slice_index votes j * next_signpost others seats k

-- this many seats are given, and none of them would be worth more as the next seat of a cell
pub record AreGiven (votes others seats : List ℕ) (given : ℕ) : Type 0 where
  pub room : length votes ≤ length seats
  pub add_up : sum_to (length votes) (slice_index seats) ≡ given
  pub in_order : (i j : ℕ) → i < length votes → j < length votes → 1 ≤ slice_index seats i →
      slice_index votes j * last_signpost others seats i ≤ slice_index votes i * next_signpost others seats j

-- no last seat is worth less than that of cell i, which has votes
pub record IsLastCell (votes others seats : List ℕ) (i : ℕ) : Type 0 where
  pub within : i < length votes
  pub seated : 1 ≤ slice_index seats i
  pub positive : 1 ≤ slice_index votes i
  pub least : (k : ℕ) → k < length votes → 1 ≤ slice_index seats k →
      slice_index votes i * last_signpost others seats k ≤ slice_index votes k * last_signpost others seats i
