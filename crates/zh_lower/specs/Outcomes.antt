-- What the outcomes of an end test, of a round and of a search mean.
use Rattle.std.specs.Prelude.{◌≡◌, ◌≢◌, ℕ, ◌-◌, ◌*◌, ◌<◌, ◌≤◌, ◌⊎◌, IsTrue, List, slice_index}
use Rattle.zh_matrices.specs.Divisors.{Divisors}
use Rattle.zh_matrices.specs.Question.{AreSeatTotals, EachColumnHasVotes, EachRowHasVotes, Question, cell}
use Rattle.zh_matrices.specs.SeatMatrix.{IsStrict, IsWeak}
use Rattle.zh_lower.specs.States.{is_half, state, with_columns_renewed, with_rows_renewed}
use Rattle.zh_lower.specs.declared.end_test.Ending.{Ending}
use Rattle.zh_lower.specs.declared.end_test.Ending.TheVariants.{Found, Tied}

-- each line is to get 1 to 400 seats and has votes
pub record IsProper (q : Question) : Type 0 where
  pub row_totals : AreSeatTotals q.rows q.row_totals
  pub column_totals : AreSeatTotals q.columns q.column_totals
  pub row_votes : EachRowHasVotes q
  pub column_votes : EachColumnHasVotes q

-- the quotient in row d and column g, both counted from 0, lies on a half
abbrev pub HasHalf : Question → Divisors → ℕ → ℕ → Type 0
HasHalf q x d g =
    IsTrue (is_half (cell q.columns q.votes d g * (x.scale * x.scale)) (slice_index x.of_rows d * slice_index x.of_columns g))

-- row d and column g, both counted from 1, are those of the first quotient on a half, by row and then column
pub record IsFirstHalf (q : Question) (x : Divisors) (d g : ℕ) : Type 0 where
  pub row_from_1 : 1 ≤ d
  pub row : d ≤ q.rows
  pub column_from_1 : 1 ≤ g
  pub column : g ≤ q.columns
  pub half : HasHalf q x (d - 1) (g - 1)
  pub rows_before : (e f : ℕ) → e < d - 1 → f < q.columns → ¬ HasHalf q x e f
  pub columns_before : (f : ℕ) → f < g - 1 → ¬ HasHalf q x (d - 1) f

-- two different matrices that follow from these divisors, with halves rounded either way
pub record AreTwoWays (q : Question) (x : Divisors) (seats others : List ℕ) : Type 0 where
  pub one_way : IsWeak q x seats
  pub other_way : IsWeak q x others
  pub differ : seats ≢ others

-- two different matrices follow weakly from these divisors, and the first quotient on a half is in row d and column g
pub record IsTiedAt (q : Question) (x : Divisors) (d g : ℕ) : Type 0 where
  pub seats : List ℕ
  pub others : List ℕ
  pub ways : AreTwoWays q x seats others
  pub first : IsFirstHalf q x d g

-- no seats follow strictly from these divisors
abbrev pub HasNone : Question → Divisors → Type 0
HasNone q x = (seats : List ℕ) → ¬ IsStrict q x seats

-- no two different matrices follow from these divisors, with halves rounded either way
abbrev pub IsNotTied : Question → Divisors → Type 0
IsNotTied q x = (seats others : List ℕ) → ¬ AreTwoWays q x seats others

-- neither seats nor a tie, so the search goes on from these divisors
pub record IsNoEnd (q : Question) (x : Divisors) : Type 0 where
  pub none : HasNone q x
  pub not_tied : IsNotTied q x

-- the search goes on from each of its first n states
abbrev pub NoneBefore : Question → ℕ → Type 0
NoneBefore q n = (k : ℕ) → k < n → IsNoEnd q (state q k)

-- the search reaches these divisors: after at most 2,000 half-steps, and no state before gives seats or is tied
pub record IsReached (q : Question) (x : Divisors) : Type 0 where
  pub half_steps : ℕ
  pub few : half_steps ≤ 2000
  pub divisors : x ≡ state q half_steps
  pub none_before : NoneBefore q half_steps

-- the search reaches a tie, whose first quotient on a half is in row d and column g
pub record ComesToTie (q : Question) (d g : ℕ) : Type 0 where
  pub divisors : Divisors
  pub reached : IsReached q divisors
  pub tied : IsTiedAt q divisors d g

-- what an end with these divisors means: these seats follow strictly; or both of these matrices follow weakly, they differ, and the
-- first quotient on a half is in row d and column g
abbrev pub IsEnding : Question → Divisors → List ℕ → List ℕ → Ending → Type 0
IsEnding q x seats others Found = IsStrict q x seats
IsEnding q x seats others (Tied d g) = AreTwoWays q x seats others × IsFirstHalf q x d g

-- a round ends after its half-step of the columns, or after that of the rows if the search did not end in between
abbrev pub EndsRound : Question → Divisors → Divisors → Type 0
EndsRound q before after =
    (after ≡ with_columns_renewed q before)
    ⊎ ((after ≡ with_rows_renewed q (with_columns_renewed q before)) × IsNoEnd q (with_columns_renewed q before))

-- a round in which the search does not end: its two half-steps lead from one state to the other
pub record RoundGoesOn (q : Question) (before after : Divisors) : Type 0 where
  pub after_is : after ≡ with_rows_renewed q (with_columns_renewed q before)
  pub none_between : IsNoEnd q (with_columns_renewed q before)
  pub none_after : IsNoEnd q after
