-- Bounds in which one number is tightened.
use Rattle.std.proofs.Common.{◌≡◌, ◌≢◌, ℕ, ◌+◌, ◌-◌, ◌*◌, ◌<◌, ◌≤◌, List, length, get_or, set, slice_index, inl, inr, refl, sym, ap, ◌∙◌, arith}
use Rattle.std.proofs.lemmas.Bool.{cases_eq, cases_lt}
use Rattle.std.proofs.lemmas.List.{get_or-set_other, get_or-set_same, length-set}
use Rattle.std.proofs.Math.Nat.{le_of_eq, mul-le-mul_right}
use Rattle.zh_divisors.proofs.CallerLemmas.{cell-within, sum_to-le}
use Rattle.zh_matrices.specs.Question.{IsSized, Question, cell}
use Rattle.zh_decided.specs.Bounds.{AreAtLeast, AreAtMost, CellBounds, IsAnotherAt, IsWithin}
use Rattle.zh_decided.specs.Ways.{ArePlaced}
use Rattle.zh_decided.proofs.WithinLemmas.{at_most-at}

-- the first n numbers are unchanged, except that the one in `place` is x
pub record AreSameBut (n : ℕ) (before after : List ℕ) (place x : ℕ) : Type 0 where
  pub here : slice_index after place ≡ x
  pub others : (k : ℕ) → k < n → k ≢ place → slice_index after k ≡ slice_index before k

AreSameBut-set : (n : ℕ) (before copy : List ℕ) (place x : ℕ) → place < n → n ≤ length copy →
    ((k : ℕ) → k < n → slice_index copy k ≡ slice_index before k) → AreSameBut n before (set copy place x) place x
AreSameBut-set n before copy place x lt long same = record {
  here = get_or-set_same copy place x 0 (omega arith);
  others = λ k kn other. get_or-set_other copy place k x 0 other ∙ same k kn;
}

at_most-wide : (q : Question) (most tight t : List ℕ) (place x : ℕ) → AreSameBut (q.rows * q.columns) most tight place x →
    x ≤ slice_index most place → AreAtMost q tight t → AreAtMost q most t
at_most-wide q most tight t place x but le each d g dm gn = elim (cases_eq (d * q.columns + g) place) [
  | inl is ↦ omega (arith, each d g dm gn, ap (λ k. slice_index tight k) is, ap (λ k. slice_index most k) is, but.here, le)
  | inr other ↦ omega (arith, each d g dm gn, but.others (d * q.columns + g) (cell-within q.rows q.columns d g dm gn) other)
]

at_most-tight : (q : Question) (most tight t : List ℕ) (place x : ℕ) → AreSameBut (q.rows * q.columns) most tight place x →
    slice_index t place ≤ x → AreAtMost q most t → AreAtMost q tight t
at_most-tight q most tight t place x but le each d g dm gn = elim (cases_eq (d * q.columns + g) place) [
  | inl is ↦ omega (arith, ap (λ k. slice_index t k) is, ap (λ k. slice_index tight k) is, but.here, le)
  | inr other ↦ omega (arith, each d g dm gn, but.others (d * q.columns + g) (cell-within q.rows q.columns d g dm gn) other)
]

at_least-wide : (q : Question) (least tight t : List ℕ) (place x : ℕ) → AreSameBut (q.rows * q.columns) least tight place x →
    slice_index least place ≤ x → AreAtLeast q tight t → AreAtLeast q least t
at_least-wide q least tight t place x but le each d g dm gn = elim (cases_eq (d * q.columns + g) place) [
  | inl is ↦ omega (arith, each d g dm gn, ap (λ k. slice_index tight k) is, ap (λ k. slice_index least k) is, but.here, le)
  | inr other ↦ omega (arith, each d g dm gn, but.others (d * q.columns + g) (cell-within q.rows q.columns d g dm gn) other)
]

at_least-tight : (q : Question) (least tight t : List ℕ) (place x : ℕ) → AreSameBut (q.rows * q.columns) least tight place x →
    x ≤ slice_index t place → AreAtLeast q least t → AreAtLeast q tight t
at_least-tight q least tight t place x but le each d g dm gn = elim (cases_eq (d * q.columns + g) place) [
  | inl is ↦ omega (arith, ap (λ k. slice_index t k) is, ap (λ k. slice_index tight k) is, but.here, le)
  | inr other ↦ omega (arith, each d g dm gn, but.others (d * q.columns + g) (cell-within q.rows q.columns d g dm gn) other)
]

-- the bounds with tightened upper bounds
abbrev pub lowered : CellBounds → List ℕ → CellBounds
lowered b tight = record { least = b.least; most = tight }

-- the bounds with tightened lower bounds
abbrev pub raised : CellBounds → List ℕ → CellBounds
raised b tight = record { least = tight; most = b.most }

-- a matrix within some bounds is within others if each cell is
bounded : (q : Question) (b c : CellBounds) (s : List ℕ) → IsWithin q b s → AreAtLeast q c.least s → AreAtMost q c.most s → IsWithin q c s
bounded q b c s within low high = record {
  one_each = within.one_each;
  rows_add_up = within.rows_add_up;
  columns_add_up = within.columns_add_up;
  at_least = low;
  at_most = high;
}

-- a copy of all numbers in which one is then set
same_but : (q : Question) (before copy : List ℕ) (place x : ℕ) → IsSized q → length copy ≡ 1024 → place < q.rows * q.columns →
    ((k : ℕ) → k < q.rows * q.columns → slice_index copy k ≡ slice_index before k) →
    AreSameBut (q.rows * q.columns) before (set copy place x) place x
same_but q before copy place x sized long lt same =
    let few : q.rows * q.columns ≤ 32 * q.columns = mul-le-mul_right q.columns sized.few_rows in
    AreSameBut-set (q.rows * q.columns) before copy place x lt (omega (arith, long, few, sized.few_columns)) same

-- the upper bound in `place` is tightened to one seat less than the cell has
pub record IsFewer (q : Question) (b : CellBounds) (seats tight : List ℕ) (place : ℕ) : Type 0 where
  pub but : AreSameBut (q.rows * q.columns) b.most tight place (get_or seats place 0 - 1)
  pub within : IsWithin q b seats
  pub there : place < q.rows * q.columns
  pub some : 0 < slice_index seats place

pub IsFewer-of : (q : Question) (b : CellBounds) (copy seats : List ℕ) (place : ℕ) → IsSized q → length copy ≡ 1024 → place < q.rows * q.columns →
    ((k : ℕ) → k < q.rows * q.columns → slice_index copy k ≡ slice_index b.most k) → IsWithin q b seats → 0 < slice_index seats place →
    IsFewer q b seats (set copy place (get_or seats place 0 - 1)) place
IsFewer-of q b copy seats place sized long lt same within some = record {
  but = same_but q b.most copy place (get_or seats place 0 - 1) sized long lt same;
  within = within;
  there = lt;
  some = some;
}

-- the matrix with one seat less in that place is within the tightened bounds
pub fewer-placed : (q : Question) (b : CellBounds) (seats tight : List ℕ) (place : ℕ) → IsFewer q b seats tight place →
    slice_index b.least place < slice_index seats place → ArePlaced q (lowered b tight) (set seats place (get_or seats place 0 - 1))
fewer-placed q b seats tight place fewer above =
    let but : AreSameBut (q.rows * q.columns) seats (set seats place (get_or seats place 0 - 1)) place (get_or seats place 0 - 1)
    = AreSameBut-set (q.rows * q.columns) seats seats place (get_or seats place 0 - 1) fewer.there (le_of_eq (sym fewer.within.one_each)) (λ k kn. refl) in
    let below : AreAtMost q seats (set seats place (get_or seats place 0 - 1))
    = at_most-wide q seats (set seats place (get_or seats place 0 - 1)) (set seats place (get_or seats place 0 - 1)) place (get_or seats place 0 - 1) but
    (omega arith) (λ d g dm gn. omega arith) in
    record {
      one_each = length-set seats place (get_or seats place 0 - 1) ∙ fewer.within.one_each;
      rows = λ d dm. omega (
        arith,
        sum_to-le q.columns (cell q.columns (set seats place (get_or seats place 0 - 1)) d) (cell q.columns seats d) (λ g gn. below d g dm gn),
        fewer.within.rows_add_up d dm,
      );
      columns = λ g gn. omega (
        arith,
        sum_to-le q.rows (λ d. cell q.columns (set seats place (get_or seats place 0 - 1)) d g) (λ d. cell q.columns seats d g) (λ d dm. below d g dm gn),
        fewer.within.columns_add_up g gn,
      );
      at_least = at_most-tight q seats (set seats place (get_or seats place 0 - 1)) b.least place (get_or seats place 0 - 1) but
          (omega (arith, above)) fewer.within.at_least;
      at_most = at_most-tight q b.most tight (set seats place (get_or seats place 0 - 1)) place (get_or seats place 0 - 1) fewer.but
          (le_of_eq but.here) (λ d g dm gn. omega (arith, below d g dm gn, fewer.within.at_most d g dm gn));
    }

pub fewer-differs : (q : Question) (b : CellBounds) (seats tight t : List ℕ) (place : ℕ) → IsFewer q b seats tight place →
    IsWithin q (lowered b tight) t → IsAnotherAt q b seats place t
fewer-differs q b seats tight t place fewer other = record {
  within = bounded q (lowered b tight) b t other other.at_least
      (at_most-wide q b.most tight t place (get_or seats place 0 - 1) fewer.but
      (omega (arith, at_most-at q b.most seats place fewer.there fewer.within.at_most)) other.at_most);
  other = λ same. omega (arith, at_most-at q tight t place fewer.there other.at_most, fewer.but.here, fewer.some, same);
}

pub none_fewer : (q : Question) (b : CellBounds) (seats tight : List ℕ) (place : ℕ) → IsFewer q b seats tight place →
    ((t : List ℕ) → ¬ IsWithin q (lowered b tight) t) → (t : List ℕ) → IsWithin q b t → slice_index seats place ≤ slice_index t place
none_fewer q b seats tight place fewer none t within = elim (cases_lt (slice_index t place) (slice_index seats place)) [
  | inl less ↦
      absurd (none t (bounded q b (lowered b tight) t within within.at_least
      (at_most-tight q b.most tight t place (get_or seats place 0 - 1) fewer.but (omega (arith, less)) within.at_most)))
  | inr le ↦ le
]

-- the lower bound in `place` is tightened to one seat more than the cell has
pub record IsMore (q : Question) (b : CellBounds) (seats tight : List ℕ) (place : ℕ) : Type 0 where
  pub but : AreSameBut (q.rows * q.columns) b.least tight place (get_or seats place 0 + 1)
  pub within : IsWithin q b seats
  pub there : place < q.rows * q.columns

pub IsMore-of : (q : Question) (b : CellBounds) (copy seats : List ℕ) (place : ℕ) → IsSized q → length copy ≡ 1024 → place < q.rows * q.columns →
    ((k : ℕ) → k < q.rows * q.columns → slice_index copy k ≡ slice_index b.least k) → IsWithin q b seats →
    IsMore q b seats (set copy place (get_or seats place 0 + 1)) place
IsMore-of q b copy seats place sized long lt same within = record {
  but = same_but q b.least copy place (get_or seats place 0 + 1) sized long lt same;
  within = within;
  there = lt;
}

-- a matrix with one seat more in that place is within the tightened bounds
pub more-placed : (q : Question) (b : CellBounds) (seats tight others : List ℕ) (place : ℕ) → IsMore q b seats tight place → ArePlaced q b others →
    slice_index others place ≡ slice_index seats place + 1 → ArePlaced q (raised b tight) others
more-placed q b seats tight others place more placed is = record {
  one_each = placed.one_each;
  rows = placed.rows;
  columns = placed.columns;
  at_least = at_least-tight q b.least tight others place (get_or seats place 0 + 1) more.but (le_of_eq (sym is)) placed.at_least;
  at_most = placed.at_most;
}

pub more-differs : (q : Question) (b : CellBounds) (seats tight t : List ℕ) (place : ℕ) → IsMore q b seats tight place →
    IsWithin q (raised b tight) t → IsAnotherAt q b seats place t
more-differs q b seats tight t place more other = record {
  within = bounded q (raised b tight) b t other
      (at_least-wide q b.least tight t place (get_or seats place 0 + 1) more.but
      (omega (arith, at_most-at q seats b.least place more.there more.within.at_least)) other.at_least) other.at_most;
  other = λ same. omega (arith, at_most-at q t tight place more.there other.at_least, more.but.here, same);
}

pub none_more : (q : Question) (b : CellBounds) (seats tight : List ℕ) (place : ℕ) → IsMore q b seats tight place →
    ((t : List ℕ) → ¬ IsWithin q (raised b tight) t) → (t : List ℕ) → IsWithin q b t → slice_index t place ≤ slice_index seats place
none_more q b seats tight place more none t within = elim (cases_lt (slice_index seats place) (slice_index t place)) [
  | inl less ↦
      absurd (none t (bounded q b (raised b tight) t within
      (at_least-tight q b.least tight t place (get_or seats place 0 + 1) more.but (omega (arith, less)) within.at_least) within.at_most))
  | inr le ↦ le
]
