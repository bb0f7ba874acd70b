-- The lower bounds of the cells, compared with a matrix within the bounds.
use Rattle.std.proofs.Common.{◌≡◌, ℕ, ◌+◌, ◌*◌, ◌<◌, ◌≤◌, List, slice_index, sym, ◌∙◌, arith}
use Rattle.std.proofs.Math.Nat.{le_of_eq}
use Rattle.zh_divisors.proofs.CallerLemmas.{cell-within, each_place, sum_to-ext, sum_to-le}
use Rattle.zh_matrices.specs.Question.{Question, cell}
use Rattle.zh_matrices.proofs.CallerLemmas.{total-swap}
use Rattle.zh_decided.specs.Bounds.{AreAtLeast, AreAtMost, CellBounds, IsWithin}
use Rattle.zh_decided.specs.Ways.{AreBalanced, HaveColumnsRoom, HaveRowsRoom, column_seats, row_seats}

-- if a matrix has all totals, the row totals and the column totals have the same sum
pub balanced : (q : Question) (b : CellBounds) (t : List ℕ) → IsWithin q b t → AreBalanced q
balanced q b t within =
    sym (sum_to-ext q.rows (row_seats q t) (slice_index q.row_totals) within.rows_add_up)
    ∙ total-swap q.rows q.columns (cell q.columns t)
    ∙ sum_to-ext q.columns (column_seats q t) (slice_index q.column_totals) within.columns_add_up

-- each cell is at its lower bound
abbrev pub AreLeast : Question → CellBounds → List ℕ → Type 0
AreLeast q b seats = (d g : ℕ) → d < q.rows → g < q.columns → cell q.columns seats d g ≡ cell q.columns b.least d g

pub least-of : (q : Question) (b : CellBounds) (seats : List ℕ) →
    ((k : ℕ) → k < q.rows * q.columns → slice_index seats k ≡ slice_index b.least k) → AreLeast q b seats
least-of q b seats same d g dm gn = same (d * q.columns + g) (cell-within q.rows q.columns d g dm gn)

pub least-below : (q : Question) (b : CellBounds) (seats t : List ℕ) → AreLeast q b seats → IsWithin q b t → AreAtLeast q seats t
least-below q b seats t least within d g dm gn = omega (arith, least d g dm gn, within.at_least d g dm gn)

pub least-at_least : (q : Question) (b : CellBounds) (seats : List ℕ) → AreLeast q b seats → AreAtLeast q b.least seats
least-at_least q b seats least d g dm gn = le_of_eq (sym (least d g dm gn))

pub least-at_most : (q : Question) (b : CellBounds) (seats t : List ℕ) → AreLeast q b seats → IsWithin q b t → AreAtMost q b.most seats
least-at_most q b seats t least within d g dm gn =
    omega (arith, least d g dm gn, within.at_least d g dm gn, within.at_most d g dm gn)

pub least-rows : (q : Question) (b : CellBounds) (seats t : List ℕ) → AreLeast q b seats → IsWithin q b t → HaveRowsRoom q seats
least-rows q b seats t least within d dm =
    omega (arith, sum_to-le q.columns (cell q.columns seats d) (cell q.columns t d) (λ g gn. least-below q b seats t least within d g dm gn), within.rows_add_up d dm)

pub least-columns : (q : Question) (b : CellBounds) (seats t : List ℕ) → AreLeast q b seats → IsWithin q b t → HaveColumnsRoom q seats
least-columns q b seats t least within g gn =
    omega (
      arith,
      sum_to-le q.rows (λ d. cell q.columns seats d g) (λ d. cell q.columns t d g) (λ d dm. least-below q b seats t least within d g dm gn),
      within.columns_add_up g gn,
    )

-- the bound of a cell, by its place
pub at_most-at : (q : Question) (most seats : List ℕ) (k : ℕ) → k < q.rows * q.columns → AreAtMost q most seats → slice_index seats k ≤ slice_index most k
at_most-at q most seats k lt each = each_place q.rows q.columns (λ p. slice_index seats p ≤ slice_index most p) each k lt
