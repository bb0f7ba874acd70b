-- Sweeps within the limits of a sheet.
use Rattle.std.specs.Prelude.{◌≡◌, ℕ, ◌+◌, ◌-◌, ◌*◌, ◌^◌, ◌<◌, ◌≤◌, List, length, slice_index}
use Rattle.zh_decided.specs.Logarithms.{HasLogarithm, IsAntilogarithm, IsLog, log_unit}
use Rattle.zh_matrices.specs.Divisors.{AreWithinLimits, millionths}
use Rattle.zh_matrices.specs.Question.{Question}
use Rattle.zh_matrices.specs.SeatMatrix.{IsStrict}
use Rattle.zh_decided.specs.Prices.{Logs, priced}
use Rattle.zh_decided.specs.Sweeps.{IsStill, of_column, of_row}
use Rattle.zh_decided.specs.declared.sweep_bounds.Bounds.{Bounds}
use Rattle.zh_decided.specs.declared.sweeps.Potentials.{Potentials}
use Rattle.zh_decided.specs.Tables.{AreLogTables}

-- the bounds of a sweep for divisors from 2^bits millionths to the limits; the slacks cover the rounding of divisors and the
-- errors of logarithms
pub record IsBox (bits : ℕ) (bounds : Bounds) : Type 0 where
  pub scale : ℕ
  pub most : ℕ
  pub scale_log : IsLog 0 2 (10 ^ 12) scale
  pub most_log : IsLog 0 2 (10 ^ 18) most
  pub scale_is : HasLogarithm (10 ^ 12) scale
  pub most_is : HasLogarithm (10 ^ 18) most
  pub given : bounds.given ≡ 2 ^ (32 - bits) + 6
  pub taken : bounds.taken ≡ 6
  pub row_cap : bounds.row_cap + bits * log_unit ≡ 2 ^ 60 + scale
  pub row_floor : bounds.row_floor + most ≡ 2 ^ 60 + scale
  pub column_cap : bounds.column_cap ≡ scale
  pub column_floor : bounds.column_floor ≡ bits * log_unit

-- n numbers from 2^bits to `most` with these logarithms, rounded down
pub record HaveLogs (bits most n : ℕ) (numbers : List ℕ) (logarithms : ℕ → ℕ) : Type 0 where
  pub one_each : length numbers ≡ n
  pub logs : (i : ℕ) → i < n → IsLog (2 ^ (31 - bits)) 2 (slice_index numbers i) (logarithms i)
  pub from_least : (i : ℕ) → i < n → 2 ^ bits ≤ slice_index numbers i
  pub at_most : (i : ℕ) → i < n → slice_index numbers i ≤ most
  pub antilogarithms : (i : ℕ) → i < n → IsAntilogarithm (logarithms i) most (slice_index numbers i)

-- the potentials at which the sweep for these seats ends, in the box of divisors from 2^bits millionths on
pub record StandsInBox (q : Question) (l : Logs) (seats : List ℕ) (bits : ℕ) (p : Potentials) : Type 0 where
  pub bounds : Bounds
  pub box : IsBox bits bounds
  pub still : IsStill (priced q l seats) bounds p

-- the divisors are the antilogarithms that belong to the potentials at which the sweep ends in this box
pub record AreInBox (q : Question) (l : Logs) (seats : List ℕ) (bits : ℕ) (of_rows of_columns : List ℕ) : Type 0 where
  pub potentials : Potentials
  pub stands : StandsInBox q l seats bits potentials
  pub rows : (d : ℕ) → d < q.rows → IsAntilogarithm (2 ^ 60 + stands.box.scale - of_row potentials d) (10 ^ 18) (slice_index of_rows d)
  pub columns : (g : ℕ) → g < q.columns → IsAntilogarithm (of_column potentials g) (10 ^ 12) (slice_index of_columns g)

-- these divisors are those of the first box in which the sweep for the seats ends at potentials, of the boxes from 2^20, 2^16,
-- 2^12, 2^8 and 2^4 on
pub record AreInFirstBox (q : Question) (seats of_rows of_columns : List ℕ) : Type 0 where
  pub logs : Logs
  pub tables : AreLogTables q logs
  pub smaller : ℕ
  pub few : smaller < 5
  pub in_box : AreInBox q logs seats (20 - 4 * smaller) of_rows of_columns
  pub before : (k : ℕ) → k < smaller → (p : Potentials) → ¬ StandsInBox q logs seats (20 - 4 * k) p

-- divisors in millionths within the limits that give these seats, with no quotient on a half, and that are those of the first
-- box
pub record GiveWithin (q : Question) (of_rows of_columns seats : List ℕ) : Type 0 where
  pub limits : AreWithinLimits q of_rows of_columns
  pub strict : IsStrict q (millionths of_rows of_columns) seats
  pub first : AreInFirstBox q seats of_rows of_columns

-- no divisors are given in this way, whatever the seats
abbrev pub NoneGiven : Question → Type 0
NoneGiven q = (of_rows of_columns seats : List ℕ) → ¬ GiveWithin q of_rows of_columns seats

-- divisors in millionths: 1.05 to 999,900,000,000 for each row, 1.05 to 999,900 for each column
pub record AreInRange (q : Question) (of_rows of_columns : List ℕ) : Type 0 where
  pub row_least : (d : ℕ) → d < q.rows → 1050000 ≤ slice_index of_rows d
  pub row_most : (d : ℕ) → d < q.rows → slice_index of_rows d ≤ 999900000000000000
  pub column_least : (g : ℕ) → g < q.columns → 1050000 ≤ slice_index of_columns g
  pub column_most : (g : ℕ) → g < q.columns → slice_index of_columns g ≤ 999900000000

-- no divisors in millionths in these ranges give the seats
abbrev pub NoneInRange : Question → List ℕ → Type 0
NoneInRange q seats = (of_rows of_columns : List ℕ) → AreInRange q of_rows of_columns → ¬ IsStrict q (millionths of_rows of_columns) seats
