-- Matrices that follow weakly are those within the bounds of their cells.
use Rattle.std.proofs.Common.{◌≡◌, ◌≢◌, ℕ, ◌+◌, ◌*◌, ◌-◌, ◌/◌, ◌^◌, ◌<◌, ◌≤◌, min, Bool, true, false, IsTrue, List, get_or, inl, inr, refl, ap, ◌∙◌, arith}
use Rattle.std.proofs.lemmas.Bool.{cases_lt}
use Rattle.std.specs.Bool.{OnFalse, OnTrue}
use Rattle.std.proofs.lemmas.List.FromFn.{get_or-map-range_with_len}
use Rattle.std.proofs.Math.Nat.{div-lt_iff_lt-mul, le-div_iff_mul-le, le_antisymm, mul-le-mul_right, mul-mod_right, mul-pos}
use Rattle.zh_divisors.specs.Line.{half_down, half_up}
use Rattle.zh_divisors.proofs.CallerLemmas.{cell-within, column_of, half_down-at_most, half_up-at_least, place-div, place-mod, row_of, same_table}
use Rattle.zh_matrices.specs.Divisors.{AreWithinLimits, Divisors, millionths}
use Rattle.zh_matrices.specs.Question.{Question, cell}
use Rattle.zh_matrices.specs.SeatMatrix.{IsWeak, MayRound}
use Rattle.zh_matrices.proofs.CallerLemmas.{few-in-cell}
use Rattle.zh_decided.specs.Bounds.{IsWithin}
use Rattle.zh_lower.specs.Outcomes.{AreTwoWays, IsNotTied, IsProper}
use Rattle.zh_lower.specs.Places.{HasNoHalf, product_at}
use Rattle.zh_lower.specs.SeatBounds.{least_at, least_seats, most_at, most_seats, seat_bounds}
use Rattle.zh_lower.specs.States.{is_half}
use Rattle.zh_lower.proofs.PlaceLemmas.{half_there}

-- s is at least n / p rounded half down and at most n / p rounded half up, both capped at 401
record IsBetween (n p s : ℕ) : Type 0 where
  from : min 401 (half_down n p) ≤ s
  to : s ≤ min 401 (half_up n p)

up-above : (n p s : ℕ) → 0 < p → MayRound n p s → s ≤ half_up n p
up-above n p s positive rounds = elim (cases_lt 0 s) [
  | inl some ↦
      let odd : 2 * s - 1 ≡ 2 * (s - 1) + 1 = omega arith in
      let lower : (2 * (s - 1) + 1) * p ≤ 2 * n = rw odd at (rounds.from_lower some) in
      omega (arith, half_up-at_least n p (s - 1) positive lower)
  | inr none ↦ omega arith
]

between : (n p s : ℕ) → 0 < p → s ≤ 400 → MayRound n p s → IsBetween n p s
between n p s positive few rounds =
    let down : half_down n p ≤ s = half_down-at_most n p s positive rounds.to_upper in
    let up : s ≤ half_up n p = up-above n p s positive rounds in
    record { from = omega arith; to = omega arith }

down-upper : (n p s : ℕ) → 0 < p → half_down n p ≤ s → 2 * n ≤ (2 * s + 1) * p
down-upper n p s positive down =
    let twice : 0 < 2 * p = omega arith in
    let less : (2 * n + p - 1) / (2 * p) < s + 1 = omega arith in
    omega (arith, (div-lt_iff_lt-mul twice).0 less)

up-lower : (n p s : ℕ) → 0 < p → s ≤ half_up n p → 2 * p * s ≤ 2 * n + p
up-lower n p s positive up =
    let twice : 0 < 2 * p = omega arith in
    let there : s ≤ (2 * n + p) / (2 * p) = up in
    omega (arith, (le-div_iff_mul-le twice).0 there)

lower-odd : (n p r : ℕ) → 2 * p * (r + 1) ≤ 2 * n + p → (2 * r + 1) * p ≤ 2 * n
lower-odd n p r lower = omega (arith, lower)

may_round : (n p s : ℕ) → 0 < p → s ≤ 400 → IsBetween n p s → MayRound n p s
may_round n p s positive few is =
    let down : half_down n p ≤ s = omega (arith, is.from) in
    let up : s ≤ half_up n p = omega (arith, is.to) in
    record {
      to_upper = down-upper n p s positive down;
      from_lower = λ some.
          let odd : 2 * s - 1 ≡ 2 * (s - 1) + 1 = omega arith in
          let whole : s - 1 + 1 ≡ s = omega arith in
          let lower : 2 * p * (s - 1 + 1) ≤ 2 * n + p = rw whole (up-lower n p s positive up) in
          rw odd (lower-odd n p (s - 1) lower);
    }

-- rounded half up is at most one more than rounded half down
up-near : (m p s : ℕ) → 0 < p → m - 1 < (s + 1) * (2 * p) → m < (s + 2) * (2 * p)
up-near m p s positive below = omega (arith, below)

up-down : (n p : ℕ) → 0 < p → half_up n p ≤ half_down n p + 1
up-down n p positive =
    let twice : 0 < 2 * p = omega arith in
    let less : (2 * n + p - 1) / (2 * p) < (2 * n + p - 1) / (2 * p) + 1 = omega arith in
    let near = up-near (2 * n + p) p ((2 * n + p - 1) / (2 * p)) positive ((div-lt_iff_lt-mul twice).0 less) in
    let above : (2 * n + p) / (2 * p) < (2 * n + p - 1) / (2 * p) + 2 = (div-lt_iff_lt-mul twice).1 near in
    omega (arith, above)

product-cell : (q : Question) (x : Divisors) (d g : ℕ) → g < q.columns →
    product_at q x (d * q.columns + g) ≡ get_or x.of_rows d 0 * get_or x.of_columns g 0
product-cell q x d g gw = rw (place-div d g q.columns gw, place-mod d g q.columns gw) refl

least-cell : (q : Question) (x : Divisors) (d g : ℕ) → d < q.rows → g < q.columns → cell q.columns (least_seats q x) d g
    ≡ min 401 (half_down (cell q.columns q.votes d g * 10 ^ 12) (get_or x.of_rows d 0 * get_or x.of_columns g 0))
least-cell q x d g dw gw =
    get_or-map-range_with_len (least_at q x) 0 (q.rows * q.columns) (d * q.columns + g) (d * q.columns + g) 0
    (cell-within q.rows q.columns d g dw gw) (omega arith)
    ∙ ap (λ p. min 401 (half_down (cell q.columns q.votes d g * 10 ^ 12) p)) (product-cell q x d g gw)

most-cell : (q : Question) (x : Divisors) (d g : ℕ) → d < q.rows → g < q.columns → cell q.columns (most_seats q x) d g
    ≡ min 401 (half_up (cell q.columns q.votes d g * 10 ^ 12) (get_or x.of_rows d 0 * get_or x.of_columns g 0))
most-cell q x d g dw gw =
    get_or-map-range_with_len (most_at q x) 0 (q.rows * q.columns) (d * q.columns + g) (d * q.columns + g) 0
    (cell-within q.rows q.columns d g dw gw) (omega arith)
    ∙ ap (λ p. min 401 (half_up (cell q.columns q.votes d g * 10 ^ 12) p)) (product-cell q x d g gw)

-- a matrix that follows weakly is within the bounds
weak-between : (q : Question) (of_rows of_columns s : List ℕ) → IsProper q → IsWeak q (millionths of_rows of_columns) s →
    (d g : ℕ) → d < q.rows → g < q.columns →
    IsBetween (cell q.columns q.votes d g * 10 ^ 12) (get_or of_rows d 0 * get_or of_columns g 0) (cell q.columns s d g)
weak-between q of_rows of_columns s proper weak d g dw gw =
    between _ _ _ (mul-pos (weak.row_divisors d dw) (weak.column_divisors g gw)) (few-in-cell q s proper.row_totals weak.rows_add_up d g dw gw)
    (weak.each_rounds d g dw gw)

pub weak-within : (q : Question) (of_rows of_columns s : List ℕ) → IsProper q → IsWeak q (millionths of_rows of_columns) s →
    IsWithin q (seat_bounds q (millionths of_rows of_columns)) s
weak-within q of_rows of_columns s proper weak = record {
  one_each = weak.one_each;
  rows_add_up = weak.rows_add_up;
  columns_add_up = weak.columns_add_up;
  at_least = λ d g dw gw. rw (least-cell q (millionths of_rows of_columns) d g dw gw)
      (weak-between q of_rows of_columns s proper weak d g dw gw).from;
  at_most = λ d g dw gw. rw (most-cell q (millionths of_rows of_columns) d g dw gw)
      (weak-between q of_rows of_columns s proper weak d g dw gw).to;
}

row-positive : (q : Question) (of_rows of_columns : List ℕ) → AreWithinLimits q of_rows of_columns → (d : ℕ) → d < q.rows → 0 < get_or of_rows d 0
row-positive q of_rows of_columns limits d dw = limits.rows.from_1 d 0 (omega (arith, limits.rows.one_each))

column-positive : (q : Question) (of_rows of_columns : List ℕ) → AreWithinLimits q of_rows of_columns → (g : ℕ) → g < q.columns →
    0 < get_or of_columns g 0
column-positive q of_rows of_columns limits g gw = limits.columns.from_1 g 0 (omega (arith, limits.columns.one_each))

within-between : (q : Question) (x : Divisors) (s : List ℕ) → IsWithin q (seat_bounds q x) s → (d g : ℕ) → d < q.rows → g < q.columns →
    IsBetween (cell q.columns q.votes d g * 10 ^ 12) (get_or x.of_rows d 0 * get_or x.of_columns g 0) (cell q.columns s d g)
within-between q x s within d g dw gw = record {
  from = rw (least-cell q x d g dw gw) at (within.at_least d g dw gw);
  to = rw (most-cell q x d g dw gw) at (within.at_most d g dw gw);
}

-- a matrix within the bounds follows weakly
pub within-weak : (q : Question) (of_rows of_columns s : List ℕ) → IsProper q → AreWithinLimits q of_rows of_columns →
    IsWithin q (seat_bounds q (millionths of_rows of_columns)) s → IsWeak q (millionths of_rows of_columns) s
within-weak q of_rows of_columns s proper limits within = record {
  one_each = within.one_each;
  rows_add_up = within.rows_add_up;
  columns_add_up = within.columns_add_up;
  scale_positive = omega arith;
  row_divisors = row-positive q of_rows of_columns limits;
  column_divisors = column-positive q of_rows of_columns limits;
  each_rounds = λ d g dw gw.
      may_round _ _ _ (mul-pos (row-positive q of_rows of_columns limits d dw) (column-positive q of_rows of_columns limits g gw))
      (few-in-cell q s proper.row_totals within.rows_add_up d g dw gw)
      (within-between q (millionths of_rows of_columns) s within d g dw gw);
}

-- the upper bound of a cell is at most one more than its lower bound
pub most-near : (q : Question) (of_rows of_columns : List ℕ) (k : ℕ) → AreWithinLimits q of_rows of_columns → k < q.rows * q.columns →
    get_or (most_seats q (millionths of_rows of_columns)) k 0 ≤ get_or (least_seats q (millionths of_rows of_columns)) k 0 + 1
most-near q of_rows of_columns k limits within =
    let x : Divisors = millionths of_rows of_columns in
    let positive : 0 < product_at q x k
    = mul-pos (row-positive q of_rows of_columns limits _ (row_of q.rows q.columns k within))
    (column-positive q of_rows of_columns limits _ (column_of q.rows q.columns k within)) in
    let near = up-down (get_or q.votes k 0 * 10 ^ 12) (product_at q x k) positive in
    rw (
      get_or-map-range_with_len (most_at q x) 0 (q.rows * q.columns) k k 0 within (omega arith),
      get_or-map-range_with_len (least_at q x) 0 (q.rows * q.columns) k k 0 within (omega arith),
    )
    (omega (arith, near))

-- if there are no two different matrices within the bounds, no two different ones follow
pub not_tied : (q : Question) (of_rows of_columns : List ℕ) → IsProper q →
    ((s t : List ℕ) → IsWithin q (seat_bounds q (millionths of_rows of_columns)) s →
    IsWithin q (seat_bounds q (millionths of_rows of_columns)) t → s ≡ t) → IsNotTied q (millionths of_rows of_columns)
not_tied q of_rows of_columns proper one seats others ways =
    ways.differ (one seats others (weak-within q of_rows of_columns seats proper ways.one_way) (weak-within q of_rows of_columns others proper ways.other_way))

pub two_ways : (q : Question) (of_rows of_columns s t : List ℕ) → IsProper q → AreWithinLimits q of_rows of_columns →
    IsWithin q (seat_bounds q (millionths of_rows of_columns)) s → IsWithin q (seat_bounds q (millionths of_rows of_columns)) t → s ≢ t →
    AreTwoWays q (millionths of_rows of_columns) s t
two_ways q of_rows of_columns s t proper limits one other differ = record {
  one_way = within-weak q of_rows of_columns s proper limits one;
  other_way = within-weak q of_rows of_columns t proper limits other;
  differ = differ;
}

-- the same for the matrices in a room
pub two-left : (q : Question) (of_rows of_columns least most one other seats others : List ℕ) (result : Bool) → IsProper q →
    AreWithinLimits q of_rows of_columns → least ≡ least_seats q (millionths of_rows of_columns) →
    most ≡ most_seats q (millionths of_rows of_columns) → seats ≡ one → others ≡ other →
    OnTrue result (IsWithin q (record { least = least; most = most }) one) →
    OnTrue result (IsWithin q (record { least = least; most = most }) other) → (IsTrue result → one ≢ other) →
    OnTrue result (AreTwoWays q (millionths of_rows of_columns) seats others)
two-left q of_rows of_columns least most one other seats others true proper limits least_is most_is seats_is others_is within also differ =
    rw (seats_is, others_is) (two_ways q of_rows of_columns one other proper limits (rw (least_is, most_is) at within)
    (rw (least_is, most_is) at also) (differ refl))
two-left q of_rows of_columns least most one other seats others false proper limits least_is most_is seats_is others_is within also differ = tt

pub none-left : (q : Question) (of_rows of_columns least most : List ℕ) (result : Bool) → IsProper q →
    least ≡ least_seats q (millionths of_rows of_columns) → most ≡ most_seats q (millionths of_rows of_columns) →
    OnFalse result ((s t : List ℕ) → IsWithin q (record { least = least; most = most }) s →
    IsWithin q (record { least = least; most = most }) t → s ≡ t) → OnFalse result (IsNotTied q (millionths of_rows of_columns))
none-left q of_rows of_columns least most true proper least_is most_is none = tt
none-left q of_rows of_columns least most false proper least_is most_is none =
    not_tied q of_rows of_columns proper (rw (least_is, most_is) at none)

-- a quotient that is not on a half rounds to only one number
squeezed : (n p r t : ℕ) → (2 * r + 1) * p ≤ 2 * n → 2 * n ≤ (2 * t + 1) * p → t ≤ r → 2 * n + p ≡ (2 * p) * (r + 1)
squeezed n p r t lower upper le =
    let odd : 2 * t + 1 ≤ 2 * r + 1 = omega arith in
    let times = mul-le-mul_right p odd in
    omega (arith, times)

no_half-le : (n p s t : ℕ) → ¬ IsTrue (is_half n p) → MayRound n p s → MayRound n p t → s ≤ t
no_half-le n p s t none one other = elim (cases_lt t s) [
  | inl lt ↦
      let odd : 2 * s - 1 ≡ 2 * (s - 1) + 1 = omega arith in
      let lower : (2 * (s - 1) + 1) * p ≤ 2 * n = rw odd at (one.from_lower (omega arith)) in
      let whole = squeezed n p (s - 1) t lower other.to_upper (omega arith) in
      let half : IsTrue (is_half n p) = rw (whole, mul-mod_right (2 * p) (s - 1 + 1)) refl in
      absurd (none half)
  | inr ge ↦ omega (arith, ge)
]

pub not_tied-without : (q : Question) (of_rows of_columns : List ℕ) → HasNoHalf q (millionths of_rows of_columns) →
    IsNotTied q (millionths of_rows of_columns)
not_tied-without q of_rows of_columns none seats others ways =
    let x : Divisors = millionths of_rows of_columns in
    let no_half : (d g : ℕ) → d < q.rows → g < q.columns →
    ¬ IsTrue (is_half (cell q.columns q.votes d g * 10 ^ 12) (get_or of_rows d 0 * get_or of_columns g 0))
    = λ d g dw gw half. none (d * q.columns + g) (cell-within q.rows q.columns d g dw gw) (half_there q x d g refl gw half) in
    ways.differ (same_table q.rows q.columns seats others ways.one_way.one_each ways.other_way.one_each (λ d g dw gw.
    le_antisymm (no_half-le _ _ _ _ (no_half d g dw gw) (ways.one_way.each_rounds d g dw gw) (ways.other_way.each_rounds d g dw gw))
    (no_half-le _ _ _ _ (no_half d g dw gw) (ways.other_way.each_rounds d g dw gw) (ways.one_way.each_rounds d g dw gw))))
