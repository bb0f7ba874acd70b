-- Where two matrices differ.
use Rattle.std.specs.Prelude.{◌≡◌, ◌≢◌, ℕ, ◌<◌, List, length, slice_index}

-- the two lists differ in this place but in none before it
pub record IsFirstPlaceApart (seats others : List ℕ) (place : ℕ) : Type 0 where
  pub within : place < length seats
  pub differ : slice_index seats place ≢ slice_index others place
  pub before : (k : ℕ) → k < place → slice_index seats k ≡ slice_index others k
