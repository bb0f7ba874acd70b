-- The divisors that are shown: those of the search, the middle of those that give the seats, or those of the decision.
use Rattle.std.specs.Prelude.{◌≡◌, ℕ, ◌⊎◌, List}
use Rattle.zh_decided.specs.Boxes.{GiveWithin}
use Rattle.zh_matrices.specs.Divisors.{Divisors, millionths}
use Rattle.zh_matrices.specs.Question.{Question}
use Rattle.zh_matrices.specs.SeatMatrix.{IsStrict}
use Rattle.zh_lower.specs.Outcomes.{IsReached, NoneBefore}
use Rattle.zh_lower.specs.Second.{IsMiddle, IsSecond}

-- x is the middle from these columns, with a scale by which 1,000,000 becomes 1; or, if no such middle gives these seats, x is
-- the columns themselves with their rows
abbrev pub IsMadeReadable : Question → List ℕ → List ℕ → List ℕ → Divisors → Type 0
IsMadeReadable q seats of_rows of_columns x =
    (IsMiddle q 1000000 of_columns x × IsStrict q x seats)
    ⊎ ((x ≡ millionths of_rows of_columns) × ((y : Divisors) → IsMiddle q 1000000 of_columns y → ¬ IsStrict q y seats))

-- the divisors that the decision gives for some seats, made easier to read if possible
pub record IsThird (q : Question) (x : Divisors) : Type 0 where
  pub seats : List ℕ
  pub rows : List ℕ
  pub columns : List ℕ
  pub give : GiveWithin q rows columns seats
  pub readable : IsMadeReadable q seats rows columns x

-- no seats have a middle
abbrev pub HasNoSecond : Question → Type 0
HasNoSecond q = (x : Divisors) → ¬ IsSecond q x

-- after the search: a middle or, only if there is none, the divisors of the decision
abbrev pub IsSecondOrThird : Question → Divisors → Type 0
IsSecondOrThird q x = IsSecond q x ⊎ (HasNoSecond q × IsThird q x)

-- the divisors that a sheet shows: those that the search reaches or, only if no state of it gives seats or is tied, those after
-- it
abbrev pub IsShown : Question → Divisors → Type 0
IsShown q x = IsReached q x ⊎ (NoneBefore q 2001 × IsSecondOrThird q x)
