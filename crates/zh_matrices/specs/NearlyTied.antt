-- Near ties: two matrices that follow from the same divisors within the factor 1 + 2^-17 = 131073 / 131072.
use Rattle.std.specs.Prelude.{◌≡◌, ◌≢◌, ℕ, ◌+◌, ◌-◌, ◌*◌, ◌<◌, ◌≤◌, List}
use Rattle.zh_matrices.specs.Divisors.{Divisors}
use Rattle.zh_matrices.specs.Question.{Question, cell}
use Rattle.zh_matrices.specs.SeatMatrix.{Follows}

-- n / p rounds to s, or passes a half next to s by at most the factor
pub record NearlyRounds (n p s : ℕ) : Type 0 where
  pub to_upper : 131072 * (2 * n) ≤ 131073 * ((2 * s + 1) * p)
  pub from_lower : 1 ≤ s → 131072 * ((2 * s - 1) * p) ≤ 131073 * (2 * n)

-- n / p rounds to s and is clear of each half by more than the factor
pub record RoundsClearly (n p s : ℕ) : Type 0 where
  pub below_upper : 131073 * (2 * n) < 131072 * ((2 * s + 1) * p)
  pub above_lower : 1 ≤ s → 131073 * ((2 * s - 1) * p) < 131072 * (2 * n)

-- seats with all totals that the divisors nearly give
abbrev pub IsNear : Question → Divisors → List ℕ → Type 0
IsNear = Follows NearlyRounds

-- seats with all totals that the divisors give, each quotient clear of every half by more than the factor
abbrev pub IsClear : Question → Divisors → List ℕ → Type 0
IsClear = Follows RoundsClearly

-- the first cell, row by row, in which two matrices differ is in row d and column g, both counted from 1
pub record DifferFirstAt (q : Question) (seats others : List ℕ) (d g : ℕ) : Type 0 where
  pub row_from_1 : 1 ≤ d
  pub row : d ≤ q.rows
  pub column_from_1 : 1 ≤ g
  pub column : g ≤ q.columns
  pub differ : cell q.columns seats (d - 1) (g - 1) ≢ cell q.columns others (d - 1) (g - 1)
  pub rows_before : (e f : ℕ) → e < d - 1 → f < q.columns → cell q.columns seats e f ≡ cell q.columns others e f
  pub columns_before : (f : ℕ) → f < g - 1 → cell q.columns seats (d - 1) f ≡ cell q.columns others (d - 1) f

-- the two matrices nearly follow from the same divisors, and the first cell in which they differ is in row d and column g
pub record AreNearlyTied (q : Question) (x : Divisors) (seats others : List ℕ) (d g : ℕ) : Type 0 where
  pub one : IsNear q x seats
  pub other : IsNear q x others
  pub first : DifferFirstAt q seats others d g

-- some two matrices are nearly tied, and the first cell in which they differ is in row d and column g
pub record IsNearlyTied (q : Question) (d g : ℕ) : Type 0 where
  pub divisors : Divisors
  pub seats : List ℕ
  pub others : List ℕ
  pub tied : AreNearlyTied q divisors seats others d g
