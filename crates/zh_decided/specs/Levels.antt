-- One level of a sweep: each row and each column with its potential and the line that lowered it; and the trail along which
-- the potentials of columns fell from level to level.
use Rattle.std.specs.Prelude.{◌≡◌, ◌≢◌, ℕ, ◌+◌, ◌-◌, ◌*◌, ◌^◌, ◌<◌, ◌≤◌, MatchOption, Option, Some, None, List, slice_index_or}
use Rattle.zh_decided.specs.Prices.{Priced}
use Rattle.zh_decided.specs.Sweeps.{AreCapped, AreFair, AreFree, AreOut, IsCycle, IsStill, step_at}
use Rattle.zh_decided.specs.declared.sweep_bounds.Bounds.{Bounds}
use Rattle.zh_decided.specs.declared.prices.Mark.{Mark}
use Rattle.zh_decided.specs.declared.cycles.Trail.{Trail}
use Rattle.zh_decided.specs.declared.levels.Descent.{Descent}
use Rattle.zh_decided.specs.declared.levels.Descent.TheVariants as descents

abbrev pub mark_at : List Mark → ℕ → Mark
mark_at marks i = slice_index_or marks i (record { potential = 0; maker = None })

abbrev pub potential_at : List Mark → ℕ → ℕ
potential_at marks i = (mark_at marks i).potential

-- `potential` is the greatest that column g allows row d
pub record MakesRow (m : Priced) (bounds : Bounds) (columns : List Mark) (d potential g : ℕ) : Type 0 where
  pub column : g < m.cells.columns
  pub votes : 0 < m.cells.votes d g
  pub made : potential + bounds.given ≡ potential_at columns g + m.next d g

-- what limits the potential of a row: a column, or the cap
abbrev pub IsRowMaker : Priced → Bounds → List Mark → ℕ → ℕ → Option ℕ → Type 0
IsRowMaker m bounds columns d potential None = potential ≡ bounds.row_cap
IsRowMaker m bounds columns d potential (Some g) = MakesRow m bounds columns d potential g

-- the greatest potential of row d that the cap and the columns allow
pub record IsRowMark (m : Priced) (bounds : Bounds) (columns : List Mark) (d : ℕ) (mark : Mark) : Type 0 where
  pub capped : mark.potential ≤ bounds.row_cap
  pub given : (g : ℕ) → g < m.cells.columns → 0 < m.cells.votes d g → mark.potential + bounds.given ≤ potential_at columns g + m.next d g
  pub maker : IsRowMaker m bounds columns d mark.potential mark.maker

-- `potential` is the greatest that row d allows column g
pub record MakesColumn (m : Priced) (bounds : Bounds) (rows : List Mark) (g potential d : ℕ) : Type 0 where
  pub row : d < m.cells.rows
  pub seat : 0 < m.cells.seats d g
  pub made : potential ≡ potential_at rows d - (m.last d g + bounds.taken)

-- the greatest potential of column g that the rows allow and that is at most the one before; and the row that lowered it, if
-- one did
pub record IsColumnMark (m : Priced) (bounds : Bounds) (rows : List Mark) (before g : ℕ) (mark : Mark) : Type 0 where
  pub falls : mark.potential ≤ before
  pub taken : (d : ℕ) → d < m.cells.rows → 0 < m.cells.seats d g → mark.potential ≤ potential_at rows d - (m.last d g + bounds.taken)
  pub maker : MatchOption mark.maker (mark.potential ≡ before)
      (λ d. (mark.potential < before) × MakesColumn m bounds rows g mark.potential d)

-- the marks of all rows, none below its floor
pub record AreRowMarks (m : Priced) (bounds : Bounds) (columns rows : List Mark) : Type 0 where
  pub each : (d : ℕ) → d < m.cells.rows → IsRowMark m bounds columns d (mark_at rows d)
  pub floors : (d : ℕ) → d < m.cells.rows → bounds.row_floor ≤ potential_at rows d

pub record AreColumnMarks (m : Priced) (bounds : Bounds) (rows before columns : List Mark) : Type 0 where
  pub each : (g : ℕ) → g < m.cells.columns → IsColumnMark m bounds rows (potential_at before g) g (mark_at columns g)
  pub floors : (g : ℕ) → g < m.cells.columns → bounds.column_floor ≤ potential_at columns g

-- a row or a column whose mark is below its floor
pub record IsLowRow (m : Priced) (bounds : Bounds) (columns : List Mark) : Type 0 where
  pub row : ℕ
  pub mark : Mark
  pub within : row < m.cells.rows
  pub is : IsRowMark m bounds columns row mark
  pub low : mark.potential < bounds.row_floor

pub record IsLowColumn (m : Priced) (bounds : Bounds) (rows before : List Mark) : Type 0 where
  pub column : ℕ
  pub mark : Mark
  pub within : column < m.cells.columns
  pub is : IsColumnMark m bounds rows (potential_at before column) column mark
  pub low : mark.potential < bounds.column_floor

-- a trail goes back from a column whose potential fell at the last level, one level per step: the giver lowered the column, and the column
-- lowered the taker, which is the giver of the step before. `value` is the potential that each column fell to
pub record IsTrail (m : Priced) (bounds : Bounds) (columns : List Mark) (trail : Trail) : Type 0 where
  pub value : ℕ → ℕ
  pub some : 1 ≤ trail.length
  pub few : trail.length ≤ 33
  pub giver : (k : ℕ) → k < trail.length → (step_at trail.steps k).giver < m.cells.rows
  pub column : (k : ℕ) → k < trail.length → (step_at trail.steps k).column < m.cells.columns
  pub seat : (k : ℕ) → k < trail.length → 0 < m.cells.seats (step_at trail.steps k).giver (step_at trail.steps k).column
  pub below : (k : ℕ) → k < trail.length → value k < potential_at columns (step_at trail.steps k).column
  pub differ : (j k : ℕ) → j < k → k < trail.length → (step_at trail.steps j).column ≢ (step_at trail.steps k).column
  pub joined : (k : ℕ) → k + 1 < trail.length → (step_at trail.steps (k + 1)).taker ≡ (step_at trail.steps k).giver
  pub votes : (k : ℕ) → k + 1 < trail.length → 0 < m.cells.votes (step_at trail.steps k).giver (step_at trail.steps (k + 1)).column
  pub along : (k : ℕ) → k + 1 < trail.length →
      value k + m.last (step_at trail.steps k).giver (step_at trail.steps k).column + (bounds.given + bounds.taken)
      ≡ value (k + 1) + m.next (step_at trail.steps k).giver (step_at trail.steps (k + 1)).column
  pub source : IsRowMaker m bounds columns (step_at trail.steps (trail.length - 1)).giver
      (value (trail.length - 1) + m.last (step_at trail.steps (trail.length - 1)).giver (step_at trail.steps (trail.length - 1)).column
      + bounds.taken) trail.source

-- columns so high that this level and `levels` more cannot bring them down to 0
pub record HasRoom (m : Priced) (bounds : Bounds) (levels : ℕ) (columns : List Mark) : Type 0 where
  pub free : AreFree bounds
  pub each : (g : ℕ) → g < m.cells.columns → (levels + 1) * 2 ^ 38 + 1 ≤ potential_at columns g

-- the sweep leaves its bounds; so these are not free, or a column is too low
pub record GoesOut (m : Priced) (bounds : Bounds) (levels : ℕ) (columns : List Mark) : Type 0 where
  pub out : AreOut m bounds levels (potential_at columns)
  pub no_room : ¬ HasRoom m bounds levels columns

-- no fair potentials under the caps are above these columns
abbrev pub AreAbove : Priced → Bounds → List Mark → Type 0
AreAbove m bounds columns = (x y : ℕ → ℕ) → AreFair m bounds 0 0 x y → AreCapped m bounds 0 x y → (g : ℕ) → g < m.cells.columns →
    y g ≤ potential_at columns g

-- how a sweep ends from these columns on, with this level and `levels` more
abbrev pub Descends : Priced → Bounds → ℕ → List Mark → Descent → Type 0
Descends m bounds levels columns (descents.Still p) = IsStill m bounds p
Descends m bounds levels columns (descents.Cycle cycle) = IsCycle m (bounds.given + bounds.taken) cycle
Descends m bounds levels columns descents.Out = GoesOut m bounds levels columns
Descends m bounds levels columns (descents.Falls trail) = IsTrail m bounds columns trail × (trail.length ≡ levels + 1)
