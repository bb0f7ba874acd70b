-- The range of a cell over all matrices that may be drawn.
use Rattle.std.proofs.Common.{◌≡◌, ◌≢◌, ℕ, ◌+◌, ◌*◌, ◌/◌, ◌%◌, ◌<◌, ◌≤◌, List, length, get_or, set, slice_index, inl, inr, refl, ap, ◌∙◌, arith}
use Rattle.std.proofs.lemmas.Bool.{cases_lt}
use Rattle.std.proofs.lemmas.List.{get_or-set_other, get_or-set_same}
use Rattle.std.proofs.Math.Nat.{div-add-mod'}
use Rattle.zh_matrices.specs.Divisors.{millionths}
use Rattle.zh_matrices.specs.Lots.{AreRanges, IsDrawnAt}
use Rattle.zh_matrices.specs.Question.{Question, cell}
use Rattle.zh_divisors.proofs.CallerLemmas.{cell-within, place-div, place-mod}
use Rattle.zh_matrices.proofs.CallerLemmas.{one_set}
use Rattle.zh_decided.specs.Bounds.{CellBounds, IsAnotherAt, IsFixedAt, IsWithin}
use Rattle.zh_decided.proofs.CallerLemmas.{at_most-at}
use Rattle.zh_lower.specs.SearchRooms.{divisors_of}
use Rattle.zh_lower.specs.SeatBounds.{seat_bounds}
use Rattle.zh_lower.proofs.BoundLemmas.{most-near, weak-within, within-weak}
use Rattle.zh_lower.specs.Ties.{EncloseDraws, HasRangeAt, IsLowerTie}
use Rattle.zh_lower.specs.declared.tie.Tie.{Tie}

-- the cell in a place
there : (q : Question) (seats : List ℕ) (place : ℕ) → cell q.columns seats (place / q.columns) (place % q.columns) ≡ slice_index seats place
there q seats place = ap (λ p. slice_index seats p) (div-add-mod' place q.columns)

-- a matrix within the bounds, in a place
at_least : (q : Question) (bounds : CellBounds) (seats : List ℕ) (place : ℕ) → place < q.rows * q.columns → IsWithin q bounds seats →
    slice_index bounds.least place ≤ slice_index seats place
at_least q bounds seats place lt within = at_most-at q seats bounds.least place lt within.at_least

at_most : (q : Question) (bounds : CellBounds) (seats : List ℕ) (place : ℕ) → place < q.rows * q.columns → IsWithin q bounds seats →
    slice_index seats place ≤ slice_index bounds.most place
at_most q bounds seats place lt within = at_most-at q bounds.most seats place lt within.at_most

drawn_there : (q : Question) (bounds : CellBounds) (seats : List ℕ) (place number : ℕ) → EncloseDraws q bounds → IsWithin q bounds seats →
    slice_index seats place ≡ number → IsDrawnAt q (place / q.columns) (place % q.columns) number
drawn_there q bounds seats place number enclose within is = record {
  seats = seats;
  drawn = enclose.drawn seats within;
  there = there q seats place ∙ is;
}

-- the range of a cell, from all matrices within the bounds
range_there : (q : Question) (bounds : CellBounds) (place least most : ℕ) → EncloseDraws q bounds →
    ((seats : List ℕ) → IsWithin q bounds seats → least ≤ slice_index seats place) →
    ((seats : List ℕ) → IsWithin q bounds seats → slice_index seats place ≤ most) →
    IsDrawnAt q (place / q.columns) (place % q.columns) least →
    IsDrawnAt q (place / q.columns) (place % q.columns) most →
    HasRangeAt q place least most
range_there q bounds place least most enclose below above one other = record {
  at_least = λ seats drawn. omega (arith, below seats (enclose.within seats drawn), there q seats place);
  at_most = λ seats drawn. omega (arith, above seats (enclose.within seats drawn), there q seats place);
  least_drawn = one;
  most_drawn = other;
}

-- if some matrix has a different number in a cell, the range of the cell is its two bounds
pub open_range : (q : Question) (bounds : CellBounds) (seats others : List ℕ) (place : ℕ) → place < q.rows * q.columns →
    EncloseDraws q bounds → IsWithin q bounds seats → IsAnotherAt q bounds seats place others →
    HasRangeAt q place (slice_index bounds.least place) (slice_index bounds.most place)
open_range q bounds seats others place lt enclose within differs =
    let l = at_least q bounds seats place lt within in
    let m = at_most q bounds seats place lt within in
    let l' = at_least q bounds others place lt differs.within in
    let m' = at_most q bounds others place lt differs.within in
    let near = enclose.neighbours place lt in
    let range : (low high : List ℕ) → IsWithin q bounds low → IsWithin q bounds high →
    slice_index low place ≡ slice_index bounds.least place → slice_index high place ≡ slice_index bounds.most place →
    HasRangeAt q place (slice_index bounds.least place) (slice_index bounds.most place)
    = λ low high low_within high_within is_low is_high.
    range_there q bounds place _ _ enclose (λ s w. at_least q bounds s place lt w) (λ s w. at_most q bounds s place lt w)
    (drawn_there q bounds low place _ enclose low_within is_low)
    (drawn_there q bounds high place _ enclose high_within is_high) in
    elim (cases_lt (slice_index seats place) (slice_index others place)) [
      | inl fewer ↦ range seats others within differs.within (omega arith) (omega arith)
      | inr no_fewer ↦
          elim (cases_lt (slice_index others place) (slice_index seats place)) [
            | inl more ↦ range others seats differs.within within (omega arith) (omega arith)
            | inr no_more ↦ absurd (differs.other (omega arith))
          ]
    ]

-- if none has, the range is the number of seats that all have there
pub fixed_range : (q : Question) (bounds : CellBounds) (seats : List ℕ) (place : ℕ) → EncloseDraws q bounds → IsWithin q bounds seats →
    IsFixedAt q bounds seats place → HasRangeAt q place (slice_index seats place) (slice_index seats place)
fixed_range q bounds seats place enclose within fixed =
    let here = drawn_there q bounds seats place (slice_index seats place) enclose within refl in
    range_there q bounds place _ _ enclose (λ s w. omega (arith, fixed s w)) (λ s w. omega (arith, fixed s w)) here here

-- if the bounds of a cell leave one number, all matrices have it there
pub fixed_by_bounds : (q : Question) (bounds : CellBounds) (seats : List ℕ) (place : ℕ) → place < q.rows * q.columns → IsWithin q bounds seats →
    slice_index bounds.most place ≤ slice_index bounds.least place → IsFixedAt q bounds seats place
fixed_by_bounds q bounds seats place lt within one = λ others also.
    omega (
      arith,
      at_least q bounds seats place lt within,
      at_most q bounds seats place lt within,
      at_least q bounds others place lt also,
      at_most q bounds others place lt also,
    )

-- the ranges of all cells, from those of all places
pub all_ranges : (q : Question) (least most : List ℕ) → length least ≡ q.rows * q.columns → length most ≡ q.rows * q.columns →
    ((place : ℕ) → place < q.rows * q.columns → HasRangeAt q place (slice_index least place) (slice_index most place)) →
    AreRanges q least most
all_ranges q least most one_least_each one_most_each each = record {
  one_least_each = one_least_each;
  one_most_each = one_most_each;
  ranges = λ d g dm gn.
      rw (place-div d g q.columns gn, place-mod d g q.columns gn) at (each (d * q.columns + g) (cell-within q.rows q.columns d g dm gn));
}

-- the ranges after one more place
pub one_more_range : (q : Question) (lowest highest : List ℕ) (place least most : ℕ) → place < length lowest → place < length highest →
    ((k : ℕ) → k < place → HasRangeAt q k (get_or lowest k 0) (get_or highest k 0)) → HasRangeAt q place least most →
    (k : ℕ) → k < place + 1 → HasRangeAt q k (get_or (set lowest place least) k 0) (get_or (set highest place most) k 0)
one_more_range q lowest highest place least most low high before here k lt =
    elim (cases_lt k place) [
      | inl earlier ↦
          let other : k ≢ place = λ same. absurd (omega arith) in
          rw (get_or-set_other lowest place k least 0 other, get_or-set_other highest place k most 0 other) (before k earlier)
      | inr no_earlier ↦
          let same : k ≡ place = omega arith in
          rw (same, get_or-set_same lowest place least 0 low, get_or-set_same highest place most 0 high) here
    ]

-- the bounds that the divisors of a tie give
pub tie-within : (q : Question) (tie : Tie) (bounds : CellBounds) → bounds ≡ seat_bounds q (divisors_of tie.divisors) → IsLowerTie q tie →
    IsWithin q bounds tie.seats.items
tie-within q tie bounds same is =
    rw same (weak-within q tie.divisors.of_rows.items tie.divisors.of_columns.items tie.seats.items is.proper is.weak)

pub tie-encloses : (q : Question) (tie : Tie) (bounds : CellBounds) → bounds ≡ seat_bounds q (divisors_of tie.divisors) → IsLowerTie q tie →
    EncloseDraws q bounds
tie-encloses q tie bounds same is =
    let rows : List ℕ = tie.divisors.of_rows.items in
    let columns : List ℕ = tie.divisors.of_columns.items in
    rw same (record {
      within = λ seats drawn.
          weak-within q rows columns seats is.proper
          (one_set q (millionths rows columns) drawn.divisors tie.seats.items seats is.weak drawn.weak);
      drawn = λ seats within. record {
        divisors = millionths rows columns;
        weak = within-weak q rows columns seats is.proper is.limits within;
      };
      neighbours = λ place lt. most-near q rows columns place is.limits lt;
    })
