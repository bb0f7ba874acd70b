-- The constituencies between which seats are tied, and those without a seat.
use Rattle.std.specs.Prelude.{◌≡◌, ℕ, ◌+◌, ◌-◌, ◌<◌, List, Bool, false, IsTrue, ◌↔◌, length, slice_index, slice_index_or}
use Rattle.zh_divisors.specs.Claims.{HasSameClaim}
use Rattle.zh_districts.specs.Canton.{Canton}
use Rattle.zh_districts.specs.Seats.{persons, AreSeats}

-- constituency d, from 1, is one of those between which seats are tied: it has the same claim as another
abbrev pub IsTiedIn : Canton → ℕ → Type 0
IsTiedIn canton d = HasSameClaim (persons canton) canton.house (d - 1)

-- constituency d, from 1, gets no seat; false if the seats are tied
abbrev pub IsUnseated : Canton → ℕ → Type 0
IsUnseated canton d = (seats : List ℕ) × AreSeats canton seats × (slice_index seats (d - 1) ≡ 0)

-- one mark for each number from 1 to n, in order: whether `Holds` is true of the number
pub record Tell (Holds : ℕ → Type 0) (n : ℕ) (marks : List Bool) : Type 0 where
  pub one_each : length marks ≡ n
  pub each : (k : ℕ) → k < n → IsTrue (slice_index_or marks k false) ↔ Holds (k + 1)
