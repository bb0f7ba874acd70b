-- The only tie that the search reaches.
use Rattle.std.proofs.Common.{◌≡◌, ℕ, ◌-◌, ◌≤◌, inl, inr, arith}
use Rattle.std.proofs.lemmas.Bool.{cases_lt}
use Rattle.zh_matrices.specs.Divisors.{Divisors}
use Rattle.zh_matrices.specs.Question.{Question}
use Rattle.zh_lower.specs.Outcomes.{ComesToTie, HasHalf, IsFirstHalf, IsNoEnd, IsTiedAt, NoneBefore}
use Rattle.zh_lower.proofs.StateLemmas.{same-end}

-- the first half is in one row only
row-not-before : (q : Question) (x : Divisors) (d g e f : ℕ) → IsFirstHalf q x d g → IsFirstHalf q x e f → e ≤ d
row-not-before q x d g e f one other = elim (cases_lt (d - 1) (e - 1)) [
  | inl lt ↦ absurd (other.rows_before (d - 1) (g - 1) lt (omega (arith, one.column_from_1, one.column)) one.half)
  | inr ge ↦ omega (arith, ge, one.row_from_1)
]

column-not-before : (q : Question) (x : Divisors) (d g e f : ℕ) → IsFirstHalf q x d g → IsFirstHalf q x e f → e ≡ d → f ≤ g
column-not-before q x d g e f one other row = elim (cases_lt (g - 1) (f - 1)) [
  | inl lt ↦
      let half : HasHalf q x (e - 1) (g - 1) = rw row one.half in
      absurd (other.columns_before (g - 1) lt half)
  | inr ge ↦ omega (arith, ge, one.column_from_1)
]

first-half-only : (q : Question) (x : Divisors) (d g e f : ℕ) → IsFirstHalf q x d g → IsFirstHalf q x e f → (e ≡ d) × (f ≡ g)
first-half-only q x d g e f one other =
    let row : e ≡ d = omega (arith, row-not-before q x d g e f one other, row-not-before q x e f d g other one) in
    let row_back : d ≡ e = omega arith in
    (row, omega (arith, column-not-before q x d g e f one other row, column-not-before q x e f d g other one row_back))

tied-ends : (q : Question) (x : Divisors) (d g : ℕ) → IsTiedAt q x d g → ¬ IsNoEnd q x
tied-ends q x d g tied goes = goes.not_tied tied.seats tied.others tied.ways

-- the search reaches only one tie
pub same-tie : (q : Question) (d g e f : ℕ) → ComesToTie q d g → ComesToTie q e f → (e ≡ d) × (f ≡ g)
same-tie q d g e f one other =
    let divisors : other.divisors ≡ one.divisors = same-end q one.divisors other.divisors one.reached
    (tied-ends q one.divisors d g one.tied) other.reached (tied-ends q other.divisors e f other.tied) in
    let half : IsFirstHalf q one.divisors e f = rw divisors at other.tied.first in
    first-half-only q one.divisors d g e f one.tied.first half

-- if it reaches one, some state is an end
pub tie-is-end : (q : Question) (d g : ℕ) → ComesToTie q d g → ¬ NoneBefore q 2001
tie-is-end q d g tie none =
    tied-ends q tie.divisors d g tie.tied (rw tie.reached.divisors (none tie.reached.half_steps (omega (arith, tie.reached.few))))
