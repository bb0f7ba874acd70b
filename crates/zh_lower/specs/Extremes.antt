-- Divisors that give some seats, and the least row divisors and greatest column divisors that rounds reach, if each line moves
-- only as far as these seats require.
use Rattle.std.specs.Prelude.{◌≡◌, ℕ, zero, suc, ◌+◌, ◌-◌, ◌*◌, ◌^◌, ◌<◌, ◌≤◌, List, slice_index}
use Rattle.zh_matrices.specs.Divisors.{AreWithin, Divisors, millionths}
use Rattle.zh_matrices.specs.Question.{Question, cell}
use Rattle.zh_matrices.specs.SeatMatrix.{IsStrict}
use Rattle.zh_lower.specs.declared.extremes.Move.{Move}
use Rattle.zh_lower.specs.declared.extremes.Move.TheVariants.{Moved, Out, Still}

-- divisors in millionths, those of columns at most `top`, that give these seats strictly
pub record Give (q : Question) (top : ℕ) (seats of_rows of_columns : List ℕ) : Type 0 where
  pub rows : AreWithin q.rows (10 ^ 18) of_rows
  pub columns : AreWithin q.columns top of_columns
  pub strict : IsStrict q (millionths of_rows of_columns) seats

-- no row divisor is above, and no column divisor is below, that of the other divisors; and so for all divisors that give these
-- seats
pub record AreBefore (q : Question) (of_rows of_columns other_rows other_columns : List ℕ) : Type 0 where
  pub rows : (d : ℕ) → d < q.rows → slice_index of_rows d ≤ slice_index other_rows d
  pub columns : (g : ℕ) → g < q.columns → slice_index other_columns g ≤ slice_index of_columns g

abbrev pub Enclose : Question → ℕ → List ℕ → List ℕ → List ℕ → Type 0
Enclose q top seats of_rows of_columns = (other_rows other_columns : List ℕ) → Give q top seats other_rows other_columns →
    AreBefore q of_rows of_columns other_rows other_columns

-- no divisors within the limits, and with columns up to `top`, give these seats
abbrev pub NoneGive : Question → ℕ → List ℕ → Type 0
NoneGive q top seats = (of_rows of_columns : List ℕ) → ¬ Give q top seats of_rows of_columns

-- with this divisor of row d and these of the columns, every quotient of the row is below the half above its seats
abbrev pub IsBelow : Question → List ℕ → List ℕ → ℕ → ℕ → Type 0
IsBelow q seats of_columns d divisor = (g : ℕ) → g < q.columns →
    2 * (cell q.columns q.votes d g * 10 ^ 12) < (2 * cell q.columns seats d g + 1) * (divisor * slice_index of_columns g)

-- with this divisor of column g and these of the rows, every quotient of the column is above the half below its seats
abbrev pub IsAbove : Question → List ℕ → List ℕ → ℕ → ℕ → Type 0
IsAbove q seats of_rows g divisor = (d : ℕ) → d < q.rows → 1 ≤ cell q.columns seats d g →
    (2 * cell q.columns seats d g - 1) * (slice_index of_rows d * divisor) < 2 * (cell q.columns q.votes d g * 10 ^ 12)

-- `after` is the least divisor of row d, from `before` on, for which IsBelow holds; and the greatest of column g, up to `before`,
-- for which IsAbove holds
pub record IsLeastRow (q : Question) (seats of_columns : List ℕ) (d before after : ℕ) : Type 0 where
  pub at_least : before ≤ after
  pub below : IsBelow q seats of_columns d after
  pub least : (other : ℕ) → before ≤ other → IsBelow q seats of_columns d other → after ≤ other

pub record IsGreatestColumn (q : Question) (seats of_rows : List ℕ) (g before after : ℕ) : Type 0 where
  pub at_most : after ≤ before
  pub above : IsAbove q seats of_rows g after
  pub greatest : (other : ℕ) → other ≤ before → IsAbove q seats of_rows g other → other ≤ after

abbrev pub AreLeastRows : Question → List ℕ → List ℕ → List ℕ → List ℕ → Type 0
AreLeastRows q seats of_columns before after = (d : ℕ) → d < q.rows →
    IsLeastRow q seats of_columns d (slice_index before d) (slice_index after d)

abbrev pub AreGreatestColumns : Question → List ℕ → List ℕ → List ℕ → List ℕ → Type 0
AreGreatestColumns q seats of_rows before after = (g : ℕ) → g < q.columns →
    IsGreatestColumn q seats of_rows g (slice_index before g) (slice_index after g)

-- one round: the rows rise, and then the columns fall
pub record IsRound (q : Question) (seats : List ℕ) (before after : Divisors) : Type 0 where
  pub rows : AreLeastRows q seats before.of_columns before.of_rows after.of_rows
  pub columns : AreGreatestColumns q seats after.of_rows before.of_columns after.of_columns

-- the start: rows at 1 millionth, and columns at the top
pub record AreOutermost (q : Question) (top : ℕ) (x : Divisors) : Type 0 where
  pub rows : (d : ℕ) → d < q.rows → slice_index x.of_rows d ≡ 1
  pub columns : (g : ℕ) → g < q.columns → slice_index x.of_columns g ≡ top

-- n rounds lead from the start to these divisors; it is not unfolded, since for a numeral every round would be
unfoldable pub ComeTo : Question → ℕ → List ℕ → ℕ → Divisors → Type 0
ComeTo q top seats zero x = AreOutermost q top x
ComeTo q top seats (suc n) x = (before : Divisors) × ComeTo q top seats n before × IsRound q seats before x

-- a claim about lines that left their limits, about lines that did not, and about lines that did not move
abbrev pub IfOut : Move → Type 0 → Type 0
IfOut Out claim = claim
IfOut Still claim = Unit {0}
IfOut Moved claim = Unit {0}

abbrev pub IfIn : Move → Type 0 → Type 0
IfIn Out claim = Unit {0}
IfIn Still claim = claim
IfIn Moved claim = claim

abbrev pub IfStill : Move → Type 0 → Type 0
IfStill Out claim = Unit {0}
IfStill Still claim = claim
IfStill Moved claim = Unit {0}
