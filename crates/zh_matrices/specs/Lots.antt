-- Where the lot decides: the matrices that may be drawn, and the seats that a cell has in them.
use Rattle.std.specs.Prelude.{◌≡◌, ◌≢◌, ℕ, ◌*◌, ◌<◌, ◌≤◌, List, length}
use Rattle.zh_matrices.specs.Divisors.{Divisors}
use Rattle.zh_matrices.specs.Question.{Question, cell}
use Rattle.zh_matrices.specs.SeatMatrix.{IsWeak}

-- seats that follow from some divisors, of any scale, halves rounded either way
pub record MayBeDrawn (q : Question) (seats : List ℕ) : Type 0 where
  pub divisors : Divisors
  pub weak : IsWeak q divisors seats

-- some matrix that may be drawn has this number of seats in row d and column g, both counted from 0
pub record IsDrawnAt (q : Question) (d g number : ℕ) : Type 0 where
  pub seats : List ℕ
  pub drawn : MayBeDrawn q seats
  pub there : cell q.columns seats d g ≡ number

-- two matrices that may be drawn have different seats in row d and column g
pub record DrawsDiffer (q : Question) (d g : ℕ) : Type 0 where
  pub seats : List ℕ
  pub others : List ℕ
  pub one : MayBeDrawn q seats
  pub other : MayBeDrawn q others
  pub differ : cell q.columns seats d g ≢ cell q.columns others d g

-- these are the fewest and the most seats in row d and column g of all matrices that may be drawn
pub record HasRange (q : Question) (d g least most : ℕ) : Type 0 where
  pub at_least : (seats : List ℕ) → MayBeDrawn q seats → least ≤ cell q.columns seats d g
  pub at_most : (seats : List ℕ) → MayBeDrawn q seats → cell q.columns seats d g ≤ most
  pub least_drawn : IsDrawnAt q d g least
  pub most_drawn : IsDrawnAt q d g most

-- the ranges of all cells, row by row
pub record AreRanges (q : Question) (least most : List ℕ) : Type 0 where
  pub one_least_each : length least ≡ q.rows * q.columns
  pub one_most_each : length most ≡ q.rows * q.columns
  pub ranges : (d g : ℕ) → d < q.rows → g < q.columns → HasRange q d g (cell q.columns least d g) (cell q.columns most d g)
