-- Seats in proportion to weights, each over one divisor and rounded to the nearest whole number.
use Rattle.std.specs.Prelude.{◌≡◌, ◌≢◌, ℕ, ◌+◌, ◌-◌, ◌*◌, ◌<◌, ◌≤◌, List, length, slice_index, sum}

-- what j's next seat is worth (its weight over 2 * seats + 1) is in this order to what i's last seat is worth (its weight
-- over 2 * seats - 1), by cross products
abbrev pub NextAgainstLast : (ℕ → ℕ → Type 0) → List ℕ → List ℕ → ℕ → ℕ → Type 0
NextAgainstLast order weights seats i j =
    order (slice_index weights j * (2 * slice_index seats i - 1)) (slice_index weights i * (2 * slice_index seats j + 1))

-- one number of seats for each weight; they add up to the house, and what the next seat of each is worth is in this order to
-- what the last seat of each other weight is worth
pub record FitsBy (order : ℕ → ℕ → Type 0) (weights : List ℕ) (house : ℕ) (seats : List ℕ) : Type 0 where
  pub one_each : length seats ≡ length weights
  pub add_up : sum seats ≡ house
  pub in_order : (i j : ℕ) → i < length weights → j < length weights → i ≢ j → 1 ≤ slice_index seats i →
      NextAgainstLast order weights seats i j

-- no seat would be worth more to another weight
abbrev pub IsFit : List ℕ → ℕ → List ℕ → Type 0
IsFit = FitsBy ◌≤◌

-- each seat would be worth less to every other weight
abbrev pub IsStrictFit : List ℕ → ℕ → List ℕ → Type 0
IsStrictFit = FitsBy ◌<◌

-- in some fit, a seat would be worth as much to another weight
pub record IsTied (weights : List ℕ) (house : ℕ) : Type 0 where
  pub seats : List ℕ
  pub fit : IsFit weights house seats
  pub from : ℕ
  pub to : ℕ
  pub from_within : from < length weights
  pub to_within : to < length weights
  pub differ : from ≢ to
  pub seated : 1 ≤ slice_index seats from
  pub as_much : NextAgainstLast ◌≡◌ weights seats from to
