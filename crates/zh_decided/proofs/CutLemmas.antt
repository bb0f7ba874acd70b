-- If no more seats can be placed, no matrix within the bounds has all totals. If all are placed, they are such a matrix.
use Rattle.std.proofs.Common.{◌≡◌, ℕ, zero, suc, ◌+◌, ◌<◌, ◌≤◌, Bool, true, false, cond, Option, Some, None, IsSome, is_none, Result, Ok, Err, IfErr, OnOk, is_ok}
use Rattle.std.proofs.Common.{List, slice_index, refl, sym, ◌∙◌, inl, inr, arith}
use Rattle.std.proofs.lemmas.Bool.{cases_lt}
use Rattle.std.proofs.Math.Nat.{le_of_eq}
use Rattle.zh_divisors.specs.Sums.{sum_to}
use Rattle.zh_divisors.proofs.CallerLemmas.{found_or_none, sum_to-ext, sum_to-le, sum_to-lt}
use Rattle.zh_matrices.specs.Question.{Question, cell}
use Rattle.zh_matrices.proofs.CallerLemmas.{same_terms, sum_to-add, total-swap}
use Rattle.zh_decided.specs.Bounds.{CellBounds, IsWithin}
use Rattle.zh_decided.specs.Impossible.{is_among, seats_due}
use Rattle.zh_decided.specs.Ways.{AreBalanced, AreBlocked, ArePlaced, HasNoSource, column_seats, placed, row_seats, to_place, way_at}
use Rattle.zh_decided.specs.declared.ways.Way.{Way}
use Rattle.zh_decided.proofs.ImpossibleLemmas.{kept-same, seats_in, seats_of_rows}

-- if one sum is less than another, one of its terms is less
some_less : (n : ℕ) (f g : ℕ → ℕ) → sum_to n f < sum_to n g → (i : ℕ) × (i < n) × (f i < g i)
some_less zero f g less = absurd (omega arith)
some_less (suc n) f g less = elim (cases_lt (f n) (g n)) [
  | inl here ↦ (n, omega arith, here)
  | inr le ↦ let (i, lt, smaller) = some_less n f g (omega arith) in (i, omega arith, smaller)
]

kept-most : (b : Bool) (x y : ℕ) → x ≤ y → cond b x 0 ≤ cond b y 0
kept-most true x y le = le
kept-most false x y le = omega arith

None-of : (o : Option Way) → is_none o ≡ true → o ≡ None
None-of None none = refl
None-of (Some way) none = cc

IsSome-not : (o : Option Way) → is_none o ≡ false → IsSome o
IsSome-not None none = cc
IsSome-not (Some way) none = refl

some-or-none : (o : Option Way) (b : Bool) → b ≡ is_none o → (IsSome o → ⊥) → b ≡ true
some-or-none None b is not = is
some-or-none (Some way) b is not = absurd (not refl)

-- the blocked rows together are short of seats
pub due-less : (q : Question) (b : CellBounds) (seats : List ℕ) (rows : List Bool) → AreBlocked q b seats rows →
    sum_to q.rows (λ d. cond (is_among rows d) (row_seats q seats d) 0) < seats_due q rows
due-less q b seats rows blocked =
    let (d, dm, lacks) = some_less q.rows (row_seats q seats) (slice_index q.row_totals) blocked.some_left in
    let among : is_among rows d ≡ true
    = some-or-none (way_at blocked.ways d) (is_among rows d) (blocked.without d dm) (λ some. omega (arith, blocked.stuck.none_lacks d dm some, lacks)) in
    sum_to-lt q.rows (λ e. cond (is_among rows e) (row_seats q seats e) 0) (λ e. cond (is_among rows e) (slice_index q.row_totals e) 0) d
    (λ e em. kept-most (is_among rows e) _ _ (blocked.each_placed.rows e em)) dm
    (rw among lacks)

-- a column in which a blocked row is below its upper bound has no source
pub closed-for : (q : Question) (b : CellBounds) (seats : List ℕ) (rows : List Bool) (blocked : AreBlocked q b seats rows) (d g : ℕ) →
    d < q.rows → g < q.columns → is_among rows d ≡ true → cell q.columns seats d g < cell q.columns b.most d g →
    HasNoSource q b seats blocked.ways g
closed-for q b seats rows blocked d g dm gn among room =
    blocked.stuck.all_found d dm (None-of (way_at blocked.ways d) (sym (blocked.without d dm) ∙ among)) g gn room

-- in a column without a source, every other row is at its lower bound
pub others-least : (q : Question) (b : CellBounds) (seats : List ℕ) (rows : List Bool) (blocked : AreBlocked q b seats rows) (d g : ℕ) →
    d < q.rows → HasNoSource q b seats blocked.ways g → is_among rows d ≡ false → cell q.columns seats d g ≤ cell q.columns b.least d g
others-least q b seats rows blocked d g dm closed not_among =
    closed.no_giver d dm (IsSome-not (way_at blocked.ways d) (sym (blocked.without d dm) ∙ not_among))

-- the seats of the other rows in column g
abbrev seats_out : Question → List Bool → List ℕ → ℕ → ℕ
seats_out q rows seats g = sum_to q.rows (λ d. cond (is_among rows d) 0 (cell q.columns seats d g))

kept-or-not : (b : Bool) (x : ℕ) → x ≡ cond b x 0 + cond b 0 x
kept-or-not true x = omega arith
kept-or-not false x = omega arith

column_parts : (q : Question) (rows : List Bool) (seats : List ℕ) (g : ℕ) → column_seats q seats g ≡ seats_in q rows seats g + seats_out q rows seats g
column_parts q rows seats g =
    sum_to-ext q.rows (λ d. cell q.columns seats d g) _ (λ d lt. kept-or-not (is_among rows d) (cell q.columns seats d g))
    ∙ sum_to-add q.rows (λ d. cond (is_among rows d) (cell q.columns seats d g) 0) (λ d. cond (is_among rows d) 0 (cell q.columns seats d g))

out-most : (b : Bool) (x y : ℕ) → (b ≡ false → x ≤ y) → cond b 0 x ≤ cond b 0 y
out-most true x y le = omega arith
out-most false x y le = le refl

kept-less : (b : Bool) (x y : ℕ) → cond b x 0 < cond b y 0 → (b ≡ true) × (x < y)
kept-less true x y less = (refl, less)
kept-less false x y less = absurd (omega arith)

-- no matrix within the bounds has more seats of the blocked rows in any column
seats_in-most : (q : Question) (b : CellBounds) (seats : List ℕ) (rows : List Bool) → AreBlocked q b seats rows → (t : List ℕ) → IsWithin q b t →
    (g : ℕ) → g < q.columns → seats_in q rows t g ≤ seats_in q rows seats g
seats_in-most q b seats rows blocked t within g gn =
    let now : ℕ → ℕ = λ d. cond (is_among rows d) (cell q.columns seats d g) 0 in
    let full : ℕ → ℕ = λ d. cond (is_among rows d) (cell q.columns b.most d g) 0 in
    elim (found_or_none (λ d. now d < full d) (λ d. full d ≤ now d) (λ d. cases_lt (now d) (full d)) q.rows) [
      | inl found ↦
          let (among, room) = kept-less (is_among rows found.0) _ _ found.2 in
          let closed : HasNoSource q b seats blocked.ways g = closed-for q b seats rows blocked found.0 g found.1 gn among room in
          let out : seats_out q rows seats g ≤ seats_out q rows t g
          = sum_to-le q.rows _ _ (λ d dm. out-most (is_among rows d) (cell q.columns seats d g) (cell q.columns t d g) (λ not_among.
          omega (arith, others-least q b seats rows blocked d g dm closed not_among, within.at_least d g dm gn))) in
          omega (arith, column_parts q rows seats g, column_parts q rows t g, within.columns_add_up g gn, closed.full, out)
      | inr none ↦
          sum_to-le q.rows _ _ (λ d dm.
          let most : cond (is_among rows d) (cell q.columns t d g) 0 ≤ cond (is_among rows d) (cell q.columns b.most d g) 0
          = kept-most (is_among rows d) _ _ (within.at_most d g dm gn) in
          omega (arith, most, none d dm))
    ]

-- if rows are blocked, no matrix within the bounds has all totals
pub none-within : (q : Question) (b : CellBounds) (seats : List ℕ) (rows : List Bool) → AreBlocked q b seats rows → (t : List ℕ) → ¬ IsWithin q b t
none-within q b seats rows blocked t within =
    let due : seats_due q rows ≡ sum_to q.rows (λ d. cond (is_among rows d) (row_seats q t d) 0)
    = sum_to-ext q.rows _ _ (λ d lt. kept-same (is_among rows d) _ _ (λ among. sym (within.rows_add_up d lt))) in
    let most : sum_to q.columns (seats_in q rows t) ≤ sum_to q.columns (seats_in q rows seats)
    = sum_to-le q.columns _ _ (λ g gn. seats_in-most q b seats rows blocked t within g gn) in
    omega (arith, due, most, seats_of_rows q rows t, seats_of_rows q rows seats, due-less q b seats rows blocked)

-- if all seats are placed, each line has its total
pub all_placed : (q : Question) (b : CellBounds) (seats : List ℕ) → AreBalanced q → ArePlaced q b seats → placed q seats ≡ to_place q → IsWithin q b seats
all_placed q b seats balanced each all = record {
  one_each = each.one_each;
  rows_add_up = same_terms q.rows (row_seats q seats) (slice_index q.row_totals) each.rows (le_of_eq (sym all));
  columns_add_up = same_terms q.columns (column_seats q seats) (slice_index q.column_totals) each.columns
      (le_of_eq (sym (sym (total-swap q.rows q.columns (cell q.columns seats)) ∙ all ∙ balanced)));
  at_least = each.at_least;
  at_most = each.at_most;
}

-- no more seats are placed than are to be placed
pub placed-le : (q : Question) (b : CellBounds) (seats : List ℕ) → ArePlaced q b seats → placed q seats ≤ to_place q
placed-le q b seats each = sum_to-le q.rows (row_seats q seats) (slice_index q.row_totals) each.rows

pub none-after : (q : Question) (b : CellBounds) (seats : List ℕ) (r : Result (Unit {0}) (List Bool)) → is_ok r ≡ false →
    IfErr r (AreBlocked q b seats) → (t : List ℕ) → ¬ IsWithin q b t
none-after q b seats (Ok u) failed blocked t within = cc
none-after q b seats (Err rows) failed blocked t within = none-within q b seats rows blocked t within

pub within-after : (r : Result (Unit {0}) (List Bool)) (P : Type 0) → is_ok r ≡ true → OnOk r P → P
within-after (Ok u) P done p = p
within-after (Err rows) P done p = cc
