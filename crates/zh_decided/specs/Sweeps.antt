-- How a sweep ends: with fair potentials, with a cycle of cells along which seats can move and get cheaper, or outside its
-- bounds.
use Rattle.std.specs.Prelude.{◌≡◌, ◌≢◌, ℕ, ◌+◌, ◌-◌, ◌*◌, ◌^◌, ◌<◌, ◌≤◌, ◌⊎◌, List, slice_index, slice_index_or}
use Rattle.zh_divisors.specs.Sums.{sum_to}
use Rattle.zh_decided.specs.Prices.{Cells, Priced}
use Rattle.zh_decided.specs.declared.sweep_bounds.Bounds.{Bounds}
use Rattle.zh_decided.specs.declared.cycles.Cycle.{Cycle}
use Rattle.zh_decided.specs.declared.cycles.Transfer.{Transfer}
use Rattle.zh_decided.specs.declared.sweeps.Potentials.{Potentials}
use Rattle.zh_decided.specs.declared.sweeps.Swept.{Swept}
use Rattle.zh_decided.specs.declared.sweeps.Swept.TheVariants as ends

-- potentials x of rows and y of columns under which each next seat is too expensive and each last seat is cheap enough, by the
-- slacks of the bounds less a and b; these are 0 if the slacks are kept in full
pub record AreFair (m : Priced) (bounds : Bounds) (a b : ℕ) (x y : ℕ → ℕ) : Type 0 where
  pub given : (d g : ℕ) → d < m.cells.rows → g < m.cells.columns → 0 < m.cells.votes d g → x d + bounds.given ≤ y g + m.next d g + a
  pub taken : (d g : ℕ) → d < m.cells.rows → g < m.cells.columns → 0 < m.cells.seats d g → y g + m.last d g + bounds.taken ≤ x d + b

-- no potential is above its cap by more than e
pub record AreCapped (m : Priced) (bounds : Bounds) (e : ℕ) (x y : ℕ → ℕ) : Type 0 where
  pub rows : (d : ℕ) → d < m.cells.rows → x d ≤ bounds.row_cap + e
  pub columns : (g : ℕ) → g < m.cells.columns → y g ≤ bounds.column_cap + e

-- the potential of some row or column is less than e above its floor
abbrev pub IsLow : Priced → Bounds → ℕ → (ℕ → ℕ) → (ℕ → ℕ) → Type 0
IsLow m bounds e x y =
    ((d : ℕ) × (d < m.cells.rows) × (x d < bounds.row_floor + e)) ⊎ ((g : ℕ) × (g < m.cells.columns) × (y g < bounds.column_floor + e))

abbrev pub of_row : Potentials → ℕ → ℕ
of_row p d = slice_index p.of_rows d

abbrev pub of_column : Potentials → ℕ → ℕ
of_column p g = slice_index p.of_columns g

-- fair potentials within the bounds, and the greatest of all fair potentials under the caps
pub record IsStill (m : Priced) (bounds : Bounds) (p : Potentials) : Type 0 where
  pub fair : AreFair m bounds 0 0 (of_row p) (of_column p)
  pub capped : AreCapped m bounds 0 (of_row p) (of_column p)
  pub row_floors : (d : ℕ) → d < m.cells.rows → bounds.row_floor ≤ of_row p d
  pub column_floors : (g : ℕ) → g < m.cells.columns → bounds.column_floor ≤ of_column p g
  pub greatest_rows : (x y : ℕ → ℕ) → AreFair m bounds 0 0 x y → AreCapped m bounds 0 x y →
      (d : ℕ) → d < m.cells.rows → x d ≤ of_row p d
  pub greatest_columns : (x y : ℕ → ℕ) → AreFair m bounds 0 0 x y → AreCapped m bounds 0 x y →
      (g : ℕ) → g < m.cells.columns → y g ≤ of_column p g

abbrev pub step_at : List Transfer → ℕ → Transfer
step_at steps k = slice_index_or steps k (record { giver = 0; column = 0; taker = 0 })

-- the giver has a seat in the column, and the taker has votes there
pub record CanPass (cells : Cells) (step : Transfer) : Type 0 where
  pub giver : step.giver < cells.rows
  pub taker : step.taker < cells.rows
  pub column : step.column < cells.columns
  pub seat : 0 < cells.seats step.giver step.column
  pub votes : 0 < cells.votes step.taker step.column

-- the prices of the seats that a cycle adds, and of the seats that it removes
abbrev pub next_prices : Priced → Cycle → ℕ
next_prices m cycle = sum_to cycle.length (λ k. m.next (step_at cycle.steps k).taker (step_at cycle.steps k).column)

abbrev pub last_prices : Priced → Cycle → ℕ
last_prices m cycle = sum_to cycle.length (λ k. m.last (step_at cycle.steps k).giver (step_at cycle.steps k).column)

-- the columns of the steps are all different; the giver of each step is the taker of the next one, and the giver of the last
-- step the taker of the first
pub record IsCircle (cells : Cells) (cycle : Cycle) : Type 0 where
  pub some : 1 ≤ cycle.length
  pub few : cycle.length ≤ 33
  pub can_pass : (k : ℕ) → k < cycle.length → CanPass cells (step_at cycle.steps k)
  pub differ : (j k : ℕ) → j < k → k < cycle.length → (step_at cycle.steps j).column ≢ (step_at cycle.steps k).column
  pub joined : (k : ℕ) → k + 1 < cycle.length → (step_at cycle.steps (k + 1)).taker ≡ (step_at cycle.steps k).giver
  pub closed : (step_at cycle.steps 0).taker ≡ (step_at cycle.steps (cycle.length - 1)).giver

-- the seats that a cycle adds cost less than those that it removes plus a slack for each step
pub record IsCycle (m : Priced) (slack : ℕ) (cycle : Cycle) : Type 0 where
  pub circle : IsCircle m.cells cycle
  pub cheaper : next_prices m cycle < last_prices m cycle + cycle.length * slack

-- a sweep leaves its bounds within this level and `levels` more: of potentials that are fair up to a and b, and at most e above
-- the row cap and these columns, one is less than e + (levels + 1) (a + b) above its floor
abbrev pub AreOut : Priced → Bounds → ℕ → (ℕ → ℕ) → Type 0
AreOut m bounds levels columns = (a b e : ℕ) (x y : ℕ → ℕ) → AreFair m bounds a b x y →
    ((d : ℕ) → d < m.cells.rows → x d ≤ bounds.row_cap + e) → ((g : ℕ) → g < m.cells.columns → y g ≤ columns g + e) →
    IsLow m bounds (e + (levels + 1) * (a + b)) x y

-- bounds so wide that no sweep leaves them: each of 33 levels lowers a column by less than 2^38
pub record AreFree (bounds : Bounds) : Type 0 where
  pub row_cap : 2 ^ 61 ≤ bounds.row_cap
  pub column_cap : bounds.column_cap ≡ 2 ^ 44
  pub row_floor : bounds.row_floor ≡ 0
  pub column_floor : bounds.column_floor ≡ 1

-- the potentials at which a sweep with these slacks ends, in bounds that no sweep leaves
pub record StandsFree (m : Priced) (given taken : ℕ) (p : Potentials) : Type 0 where
  pub bounds : Bounds
  pub free : AreFree bounds
  pub given_is : bounds.given ≡ given
  pub taken_is : bounds.taken ≡ taken
  pub still : IsStill m bounds p

-- a sweep leaves its bounds, which are too narrow
pub record IsOut (m : Priced) (bounds : Bounds) : Type 0 where
  pub out : AreOut m bounds m.cells.columns (λ g. bounds.column_cap)
  pub not_free : ¬ AreFree bounds

abbrev pub EndsSweep : Priced → Bounds → Swept → Type 0
EndsSweep m bounds (ends.Still p) = IsStill m bounds p
EndsSweep m bounds (ends.Cycle cycle) = IsCycle m (bounds.given + bounds.taken) cycle
EndsSweep m bounds ends.Out = IsOut m bounds
