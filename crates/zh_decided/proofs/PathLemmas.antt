-- The walk along the ways, from a row that is short of a seat.
use Rattle.std.proofs.Common.{◌≡◌, ◌≢◌, ℕ, ◌<◌, ◌≤◌, Option, None, Some, IsSome, List, refl, ap, ◌∙◌, arith}
use Rattle.zh_matrices.specs.Question.{Question, cell}
use Rattle.zh_decided.specs.Bounds.{CellBounds}
use Rattle.zh_decided.specs.Ways.{ArePlaced, AreWays, CanGive, CanTake, ColumnLacks, HasWayBelow, IsPassed, IsWay, RowLacks, column_seats, placed, way_at}
use Rattle.zh_decided.specs.declared.ways.Source.TheVariants.{Giver, Spare}
use Rattle.zh_decided.specs.declared.ways.Way.{Way}

-- the rank of a row's way
abbrev pub rank_of : Option Way → ℕ
rank_of None = 0
rank_of (Some way) = way.rank

-- the walk has reached this row: no cell of it has more seats than before, the columns have as many as before, and rows of
-- lower rank are unchanged
pub record IsOnWay (q : Question) (b : CellBounds) (before seats : List ℕ) (ways : List (Option Way)) (row : ℕ) : Type 0 where
  pub each_placed : ArePlaced q b seats
  pub same : placed q seats ≡ placed q before
  pub here : CanTake q seats ways row
  pub fewer : (f : ℕ) → f < q.columns → cell q.columns seats row f ≤ cell q.columns before row f
  pub columns : (g : ℕ) → g < q.columns → column_seats q seats g ≡ column_seats q before g
  pub below : (e f : ℕ) (way : Way) → e < q.rows → f < q.columns → way_at ways e ≡ Some way → way.rank < rank_of (way_at ways row) →
      cell q.columns seats e f ≡ cell q.columns before e f

-- at the end of the walk, the column is short of a seat
pub spare-lacks : (q : Question) (b : CellBounds) (before seats : List ℕ) (ways : List (Option Way)) (row : ℕ) (way : Way) →
    AreWays q b before ways → IsOnWay q b before seats ways row → way_at ways row ≡ Some way → way.source ≡ Spare → ColumnLacks q seats way.column
spare-lacks q b before seats ways row way all on there spare =
    let is : IsWay q b before ways row way = all row way on.here.row there in
    let lacks : ColumnLacks q before way.column = rw spare at is.source in
    omega (arith, lacks, on.columns way.column is.column)

-- in the column of its way, a row is below its upper bound
pub has-room : (q : Question) (b : CellBounds) (before seats : List ℕ) (ways : List (Option Way)) (row : ℕ) (way : Way) →
    AreWays q b before ways → IsOnWay q b before seats ways row → way_at ways row ≡ Some way →
    cell q.columns seats row way.column < cell q.columns b.most row way.column
has-room q b before seats ways row way all on there =
    let is : IsWay q b before ways row way = all row way on.here.row there in
    omega (arith, is.room, on.fewer way.column is.column)

-- the giver is above its lower bound in the column, and its way has a lower rank
pub record IsNext (q : Question) (b : CellBounds) (seats : List ℕ) (ways : List (Option Way)) (row giver column : ℕ) : Type 0 where
  pub giver_row : giver < q.rows
  pub has_way : IsSome (way_at ways giver)
  pub differ : giver ≢ row
  pub seat : cell q.columns b.least giver column < cell q.columns seats giver column
  pub lower : rank_of (way_at ways giver) < rank_of (way_at ways row)

pub IsNext-of : (q : Question) (b : CellBounds) (before seats : List ℕ) (ways : List (Option Way)) (row giver : ℕ) (way : Way) →
    AreWays q b before ways → IsOnWay q b before seats ways row → way_at ways row ≡ Some way → way.source ≡ Giver giver →
    IsNext q b seats ways row giver way.column
IsNext-of q b before seats ways row giver way all on there from =
    let is : IsWay q b before ways row way = all row way on.here.row there in
    let can : CanGive q b before ways way.column giver = rw from at is.source in
    let below : HasWayBelow ways giver way.rank = rw from at is.below in
    let rank : rank_of (way_at ways row) ≡ way.rank = ap rank_of there in
    let rank' : rank_of (way_at ways giver) ≡ below.way.rank = ap rank_of below.there in
    let lower : rank_of (way_at ways giver) < rank_of (way_at ways row) = omega (arith, rank, rank', below.below) in
    let same : cell q.columns seats giver way.column ≡ cell q.columns before giver way.column
    = on.below giver way.column below.way can.row is.column below.there (omega (arith, rank, below.below)) in
    record {
      giver_row = can.row;
      has_way = can.has_way;
      differ = λ e. omega (arith, lower, ap (λ d. rank_of (way_at ways d)) e);
      seat = omega (arith, same, can.seat);
      lower = lower;
    }

-- a row with a way of a rank below this one
way-ranked : (o : Option Way) (rank : ℕ) → IsSome o → rank_of o < rank → (way : Way) × (o ≡ Some way) × (way.rank < rank)
way-ranked (Some way) rank some lower = (way, refl, lower)
way-ranked None rank some lower = cc

pub IsOnWay-next : (q : Question) (b : CellBounds) (before seats after : List ℕ) (ways : List (Option Way)) (row giver column : ℕ) →
    IsOnWay q b before seats ways row → IsNext q b seats ways row giver column → ArePlaced q b after → IsPassed q seats after giver row →
    RowLacks q after giver → IsOnWay q b before after ways giver
IsOnWay-next q b before seats after ways row giver column on next each passed lacks =
    let (way, there, lower) = way-ranked (way_at ways giver) (rank_of (way_at ways row)) next.has_way next.lower in
    record {
      each_placed = each;
      same = passed.placed ∙ on.same;
      here = record { row = next.giver_row; has_way = next.has_way; lacks = lacks };
      fewer = λ f fn. omega (arith, passed.fewer f fn, on.below giver f way next.giver_row fn there lower);
      columns = λ g gn. passed.columns g gn ∙ on.columns g gn;
      below = λ e f way em fn there lower.
          let rank : rank_of (way_at ways e) ≡ way.rank = ap rank_of there in
          passed.others e f em fn
          (λ is. omega (arith, lower, rank, ap (λ d. rank_of (way_at ways d)) is))
          (λ is. omega (arith, lower, rank, next.lower, ap (λ d. rank_of (way_at ways d)) is))
          ∙ on.below e f way em fn there (omega (arith, lower, next.lower));
    }
