-- Seats that are placed one at a time, and the ways in which a row can take one more (augmenting paths).
use Rattle.std.specs.Prelude.{◌≡◌, ◌≢◌, ℕ, ◌+◌, ◌*◌, ◌<◌, ◌≤◌, Bool, nat_lt, if◌then◌else◌, Option, Some, None, IsSome, is_none}
use Rattle.std.specs.Prelude.{List, length, slice_index, slice_index_or}
use Rattle.zh_divisors.specs.Sums.{sum_to}
use Rattle.zh_matrices.specs.Question.{Question, cell}
use Rattle.zh_decided.specs.Bounds.{AreAtLeast, AreAtMost, CellBounds}
use Rattle.zh_decided.specs.Impossible.{is_among}
use Rattle.zh_decided.specs.declared.ways.Source.{Source}
use Rattle.zh_decided.specs.declared.ways.Source.TheVariants.{Giver, Spare}
use Rattle.zh_decided.specs.declared.ways.Way.{Way}

-- the seats of a row and of a column
abbrev pub row_seats : Question → List ℕ → ℕ → ℕ
row_seats q seats d = sum_to q.columns (λ g. cell q.columns seats d g)

abbrev pub column_seats : Question → List ℕ → ℕ → ℕ
column_seats q seats g = sum_to q.rows (λ d. cell q.columns seats d g)

-- how many seats are placed, and how many are to be placed
abbrev pub placed : Question → List ℕ → ℕ
placed q seats = sum_to q.rows (λ d. row_seats q seats d)

abbrev pub to_place : Question → ℕ
to_place q = sum_to q.rows (λ d. slice_index q.row_totals d)

-- the row totals and the column totals have the same sum
abbrev pub AreBalanced : Question → Type 0
AreBalanced q = to_place q ≡ sum_to q.columns (λ g. slice_index q.column_totals g)

-- a row or a column has fewer seats than it is to get
abbrev pub RowLacks : Question → List ℕ → ℕ → Type 0
RowLacks q seats d = row_seats q seats d < slice_index q.row_totals d

abbrev pub ColumnLacks : Question → List ℕ → ℕ → Type 0
ColumnLacks q seats g = column_seats q seats g < slice_index q.column_totals g

-- no row, or no column, has more seats than it is to get
abbrev pub HaveRowsRoom : Question → List ℕ → Type 0
HaveRowsRoom q seats = (d : ℕ) → d < q.rows → row_seats q seats d ≤ slice_index q.row_totals d

abbrev pub HaveColumnsRoom : Question → List ℕ → Type 0
HaveColumnsRoom q seats = (g : ℕ) → g < q.columns → column_seats q seats g ≤ slice_index q.column_totals g

-- no line has more seats than its total, and each cell is within its bounds
pub record ArePlaced (q : Question) (b : CellBounds) (seats : List ℕ) : Type 0 where
  pub one_each : length seats ≡ q.rows * q.columns
  pub rows : HaveRowsRoom q seats
  pub columns : HaveColumnsRoom q seats
  pub at_least : AreAtLeast q b.least seats
  pub at_most : AreAtMost q b.most seats

-- the upper bound of a cell is 0 without votes, and more than a row can get with votes
abbrev pub AreBoundByVotes : Question → List ℕ → Type 0
AreBoundByVotes q most = (k : ℕ) → k < q.rows * q.columns →
    slice_index most k ≡ (if nat_lt 0 (slice_index q.votes k) then 401 else 0)

-- a cell has fewer seats than its upper bound
abbrev pub IsBelowMost : Question → CellBounds → List ℕ → ℕ → ℕ → Type 0
IsBelowMost q b seats d g = cell q.columns seats d g < cell q.columns b.most d g

-- a cell has more seats than its lower bound
abbrev pub IsAboveLeast : Question → CellBounds → List ℕ → ℕ → ℕ → Type 0
IsAboveLeast q b seats d g = cell q.columns b.least d g < cell q.columns seats d g

-- another column in which row d can give up a seat, and another row that can give one up in column g
pub record IsOtherColumn (q : Question) (b : CellBounds) (seats : List ℕ) (d g f : ℕ) : Type 0 where
  pub there : f < q.columns
  pub differs : f ≢ g
  pub above : IsAboveLeast q b seats d f

pub record IsOtherRow (q : Question) (b : CellBounds) (seats : List ℕ) (d g e : ℕ) : Type 0 where
  pub there : e < q.rows
  pub differs : e ≢ d
  pub above : IsAboveLeast q b seats e g

abbrev pub HasNoOtherColumn : Question → CellBounds → List ℕ → ℕ → ℕ → Type 0
HasNoOtherColumn q b seats d g = (f : ℕ) → f < q.columns → f ≢ g → cell q.columns seats d f ≤ cell q.columns b.least d f

abbrev pub HasNoOtherRow : Question → CellBounds → List ℕ → ℕ → ℕ → Type 0
HasNoOtherRow q b seats d g = (e : ℕ) → e < q.rows → e ≢ d → cell q.columns seats e g ≤ cell q.columns b.least e g

-- one cell has one more seat, and no other cell has changed
pub record IsOneMore (q : Question) (before after : List ℕ) (d g : ℕ) : Type 0 where
  pub one_each : length after ≡ length before
  pub here : cell q.columns after d g ≡ cell q.columns before d g + 1
  pub rows : (e f : ℕ) → e < q.rows → f < q.columns → (e ≡ d → ⊥) → cell q.columns after e f ≡ cell q.columns before e f
  pub columns : (f : ℕ) → f < q.columns → (f ≡ g → ⊥) → cell q.columns after d f ≡ cell q.columns before d f

-- the way of a row, if it has one
abbrev pub way_at : List (Option Way) → ℕ → Option Way
way_at ways d = slice_index_or ways d None

-- row d has a way of a lower rank
pub record HasWayBelow (ways : List (Option Way)) (d rank : ℕ) : Type 0 where
  pub way : Way
  pub there : way_at ways d ≡ Some way
  pub below : way.rank < rank

-- row d has a way and can give up a seat in column g
pub record CanGive (q : Question) (b : CellBounds) (seats : List ℕ) (ways : List (Option Way)) (g d : ℕ) : Type 0 where
  pub row : d < q.rows
  pub has_way : IsSome (way_at ways d)
  pub seat : IsAboveLeast q b seats d g

-- where a seat in column g can come from
abbrev pub IsSource : Question → CellBounds → List ℕ → List (Option Way) → ℕ → Source → Type 0
IsSource q b seats ways g Spare = ColumnLacks q seats g
IsSource q b seats ways g (Giver d) = CanGive q b seats ways g d

-- if the source is a row, that row has a way of a lower rank
abbrev pub GivesBelow : List (Option Way) → ℕ → Source → Type 0
GivesBelow ways rank Spare = Unit {0}
GivesBelow ways rank (Giver d) = HasWayBelow ways d rank

-- a way for row d to take one more seat, in a column where it is below its upper bound
pub record IsWay (q : Question) (b : CellBounds) (seats : List ℕ) (ways : List (Option Way)) (d : ℕ) (way : Way) : Type 0 where
  pub column : way.column < q.columns
  pub room : IsBelowMost q b seats d way.column
  pub source : IsSource q b seats ways way.column way.source
  pub below : GivesBelow ways way.rank way.source

abbrev pub AreWays : Question → CellBounds → List ℕ → List (Option Way) → Type 0
AreWays q b seats ways = (d : ℕ) (way : Way) → d < q.rows → way_at ways d ≡ Some way → IsWay q b seats ways d way

-- no row with a way can give up a seat in column g
abbrev pub HasNoGiver : Question → CellBounds → List ℕ → List (Option Way) → ℕ → Type 0
HasNoGiver q b seats ways g = (d : ℕ) → d < q.rows → IsSome (way_at ways d) →
    cell q.columns seats d g ≤ cell q.columns b.least d g

-- column g has its total, and no row with a way can give up a seat there
pub record HasNoSource (q : Question) (b : CellBounds) (seats : List ℕ) (ways : List (Option Way)) (g : ℕ) : Type 0 where
  pub full : slice_index q.column_totals g ≤ column_seats q seats g
  pub no_giver : HasNoGiver q b seats ways g

-- the source of column g in a table, if it has one there
abbrev pub source_at : List (Option Source) → ℕ → Option Source
source_at sources g = slice_index_or sources g None

abbrev pub AreSources : Question → CellBounds → List ℕ → List (Option Way) → List (Option Source) → Type 0
AreSources q b seats ways sources = (g : ℕ) (source : Source) → g < q.columns → source_at sources g ≡ Some source →
    IsSource q b seats ways g source

-- a column without a source in the table has no source at all
abbrev pub AreAllSources : Question → CellBounds → List ℕ → List (Option Way) → List (Option Source) → Type 0
AreAllSources q b seats ways sources = (g : ℕ) → g < q.columns → source_at sources g ≡ None → HasNoSource q b seats ways g

-- row d is at its upper bound in every column that has a source
abbrev pub HasNoWay : Question → CellBounds → List ℕ → List (Option Way) → ℕ → Type 0
HasNoWay q b seats ways d = (g : ℕ) → g < q.columns → IsBelowMost q b seats d g → HasNoSource q b seats ways g

-- no row without a way can get one
abbrev pub AreAllFound : Question → CellBounds → List ℕ → List (Option Way) → Type 0
AreAllFound q b seats ways = (d : ℕ) → d < q.rows → way_at ways d ≡ None → HasNoWay q b seats ways d

-- the search for a row that is short of a seat has failed: no row with a way is short of one, and no other row can get a way
pub record IsStuck (q : Question) (b : CellBounds) (seats : List ℕ) (ways : List (Option Way)) : Type 0 where
  pub all_found : AreAllFound q b seats ways
  pub none_lacks : (d : ℕ) → d < q.rows → IsSome (way_at ways d) → slice_index q.row_totals d ≤ row_seats q seats d

-- `rows` marks the rows without a way
abbrev pub AreWithoutWay : Question → List (Option Way) → List Bool → Type 0
AreWithoutWay q ways rows = (d : ℕ) → d < q.rows → is_among rows d ≡ is_none (way_at ways d)

-- seats are left to place, and these rows have no way to take one
pub record AreBlocked (q : Question) (b : CellBounds) (seats : List ℕ) (rows : List Bool) : Type 0 where
  pub some_left : placed q seats < to_place q
  pub each_placed : ArePlaced q b seats
  pub ways : List (Option Way)
  pub stuck : IsStuck q b seats ways
  pub without : AreWithoutWay q ways rows

-- row d is short of a seat and has a way
pub record CanTake (q : Question) (seats : List ℕ) (ways : List (Option Way)) (d : ℕ) : Type 0 where
  pub row : d < q.rows
  pub has_way : IsSome (way_at ways d)
  pub lacks : RowLacks q seats d

-- a seat has moved within a column from one row to another: the columns have as many seats as before, the other rows are
-- unchanged, and the giver has no more seats than before in any column
pub record IsPassed (q : Question) (before after : List ℕ) (giver taker : ℕ) : Type 0 where
  pub placed : placed q after ≡ placed q before
  pub columns : (g : ℕ) → g < q.columns → column_seats q after g ≡ column_seats q before g
  pub others : (e f : ℕ) → e < q.rows → f < q.columns → (e ≡ giver → ⊥) → (e ≡ taker → ⊥) →
      cell q.columns after e f ≡ cell q.columns before e f
  pub fewer : (f : ℕ) → f < q.columns → cell q.columns after giver f ≤ cell q.columns before giver f
