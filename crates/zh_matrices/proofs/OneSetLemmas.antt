-- One set of divisors is enough: a matrix that follows weakly from some divisors follows from all divisors that give a matrix.
use Rattle.std.proofs.Common.{◌≡◌, ℕ, ◌+◌, ◌-◌, ◌*◌, ◌<◌, ◌≤◌, ◌↔◌, leb, List, slice_index, inl, inr, ap, sym, ◌∙◌, arith}
use Rattle.std.proofs.lemmas.Bool.{leb-true, leb-false, le-leb, lt-leb, cases_lt}
use Rattle.std.proofs.Math.Nat.{mul-pos, mul-le-mul_left, mul-le-mul_right, mul-lt-mul_of_pos_left, mul-lt-mul_of_pos_right, le_of_mul-le-mul_left}
use Rattle.zh_matrices.specs.Divisors.{Divisors}
use Rattle.zh_matrices.specs.Lots.{DrawsDiffer, HasRange}
use Rattle.zh_matrices.specs.Question.{Question, cell}
use Rattle.zh_matrices.specs.SeatMatrix.{IsWeak, MayRound}
use Rattle.zh_matrices.proofs.TwoRoundingLemmas.{block}

-- a smaller quotient does not round to a larger number
smaller : (v k k' p p' s s' : ℕ) → MayRound (v * k) p s → MayRound (v * k') p' s' → p * k' < p' * k → s' ≤ s
smaller v k k' p p' s s' h h' lt =
    elim (cases_lt s s') [
      | inl fewer ↦
          let a : (2 * s' - 1) * p' * k ≤ 2 * (v * k') * k = mul-le-mul_right k (h'.from_lower (omega arith)) in
          let b : 2 * (v * k) * k' ≤ (2 * s + 1) * p * k' = mul-le-mul_right k' h.to_upper in
          let c : (2 * s + 1) * (p * k') < (2 * s + 1) * (p' * k) = mul-lt-mul_of_pos_left lt (omega arith) in
          let d : (2 * s + 1) * (p' * k) ≤ (2 * s' - 1) * (p' * k) = mul-le-mul_right (p' * k) (omega arith) in
          absurd (omega arith)
      | inr le ↦ le
    ]

-- the same quotient rounds to the same numbers
same_quotient : (v k k' p p' s : ℕ) → 0 < k' → p * k' ≡ p' * k → MayRound (v * k') p' s → MayRound (v * k) p s
same_quotient v k k' p p' s pos same h = record {
  to_upper =
      let a : 2 * (v * k') * k ≤ (2 * s + 1) * p' * k = mul-le-mul_right k h.to_upper in
      let b : (2 * s + 1) * (p * k') ≡ (2 * s + 1) * (p' * k) = ap (λ w. (2 * s + 1) * w) same in
      let c : k' * (2 * (v * k)) ≤ k' * ((2 * s + 1) * p) = omega arith in
      le_of_mul-le-mul_left c pos;
  from_lower = λ some.
      let a : (2 * s - 1) * p' * k ≤ 2 * (v * k') * k = mul-le-mul_right k (h.from_lower some) in
      let b : (2 * s - 1) * (p * k') ≡ (2 * s - 1) * (p' * k) = ap (λ w. (2 * s - 1) * w) same in
      let c : k' * ((2 * s - 1) * p) ≤ k' * (2 * (v * k)) = omega arith in
      le_of_mul-le-mul_left c pos;
}

-- a chain of ratios, one of which is strict
second_strict : (a a' b b' u w : ℕ) → 0 < a → 0 < a' → 0 < b' → a' * b ≤ b' * a → a * u < a' * w → b * u < b' * w
second_strict a a' b b' u w p q r h k =
    elim (cases_lt (b * u) (b' * w)) [
      | inl lt ↦ lt
      | inr le ↦
          let e : (a' * b) * (a * u) ≤ (b' * a) * (a * u) = mul-le-mul_right (a * u) h in
          let f : (b' * a) * (a * u) < (b' * a) * (a' * w) = mul-lt-mul_of_pos_left k (mul-pos r p) in
          let g : (a * a') * (b' * w) ≤ (a * a') * (b * u) = mul-le-mul_left (a * a') le in
          absurd (omega arith)
    ]

first_strict : (a a' b b' u w : ℕ) → 0 < a → 0 < a' → 0 < w → a' * b < b' * a → a * u ≤ a' * w → b * u < b' * w
first_strict a a' b b' u w p q r h k =
    elim (cases_lt (b * u) (b' * w)) [
      | inl lt ↦ lt
      | inr le ↦
          let e : (a' * b) * (a * u) ≤ (a' * b) * (a' * w) = mul-le-mul_left (a' * b) k in
          let f : (a' * b) * (a' * w) < (b' * a) * (a' * w) = mul-lt-mul_of_pos_right h (mul-pos q r) in
          let g : (a * a') * (b' * w) ≤ (a * a') * (b * u) = mul-le-mul_left (a * a') le in
          absurd (omega arith)
    ]

-- the square of the scale
abbrev unit : Divisors → ℕ
unit x = x.scale * x.scale

-- the product of a cell's divisors, in a common unit
abbrev product : Divisors → Divisors → ℕ → ℕ → ℕ
product x y d g = slice_index x.of_rows d * (slice_index x.of_columns g * unit y)

-- a cell with a smaller quotient under y has the same seats in both matrices
same_where_smaller : (q : Question) (x y : Divisors) (s t : List ℕ) → IsWeak q x s → IsWeak q y t →
    (e f : ℕ) → e < q.rows → f < q.columns → product x y e f < product y x e f → cell q.columns t e f ≡ cell q.columns s e f
same_where_smaller q x y s t S W e f em fn smaller_there =
    let row : ℕ → ℕ = λ d. slice_index x.of_rows d in
    let row' : ℕ → ℕ = λ d. slice_index y.of_rows d in
    let column : ℕ → ℕ = λ g. slice_index x.of_columns g * unit y in
    let column' : ℕ → ℕ = λ g. slice_index y.of_columns g * unit x in
    let xe : 0 < row e = S.row_divisors e em in
    let ye : 0 < row' e = W.row_divisors e em in
    block q.rows q.columns (λ d. leb (row' e * row d) (row' d * row e)) (λ g. leb (row' e * column' g) (row e * column g))
    (cell q.columns s) (cell q.columns t)
    (λ d dm. S.rows_add_up d dm ∙ sym (W.rows_add_up d dm))
    (λ g gn. S.columns_add_up g gn ∙ sym (W.columns_add_up g gn))
    (λ d g dm gn a b.
    let h : row d * column g < row' d * column' g
    = second_strict (row e) (row' e) (row d) (row' d) (column g) (column' g) xe ye (W.row_divisors d dm) (leb-true _ _ a) (leb-false _ _ b) in
    smaller (cell q.columns q.votes d g) (unit x) (unit y) _ _ _ _ (S.each_rounds d g dm gn) (W.each_rounds d g dm gn) (omega (arith, h)))
    (λ d g dm gn a b.
    let i : row e * row' d < row d * row' e = omega (arith, leb-false _ _ a) in
    let positive : 0 < column g = mul-pos (S.column_divisors g gn) (mul-pos W.scale_positive W.scale_positive) in
    let h : row' d * column' g < row d * column g
    = first_strict (row' e) (row e) (row' d) (row d) (column' g) (column g) ye xe positive i (leb-true _ _ b) in
    smaller (cell q.columns q.votes d g) (unit y) (unit x) _ _ _ _ (W.each_rounds d g dm gn) (S.each_rounds d g dm gn) (omega (arith, h)))
    e f em fn
    (le-leb (row' e * row e) (row' e * row e) (omega arith))
    (lt-leb _ _ smaller_there)

-- so each quotient under x rounds to the seats that follow from y
rounds_under : (q : Question) (x y : Divisors) (s t : List ℕ) → IsWeak q x s → IsWeak q y t →
    (d g : ℕ) → (dm : d < q.rows) → (gn : g < q.columns) →
    MayRound (cell q.columns q.votes d g * unit x) (slice_index x.of_rows d * slice_index x.of_columns g) (cell q.columns t d g)
rounds_under q x y s t S W d g dm gn =
    elim (cases_lt (product x y d g) (product y x d g)) [
      | inl lt ↦ rw (same_where_smaller q x y s t S W d g dm gn lt) (S.each_rounds d g dm gn)
      | inr ge ↦
          elim (cases_lt (product y x d g) (product x y d g)) [
            | inl gt ↦ rw (← same_where_smaller q y x t s W S d g dm gn gt) (S.each_rounds d g dm gn)
            | inr le ↦
                same_quotient (cell q.columns q.votes d g) (unit x) (unit y) _ _ (cell q.columns t d g)
                (mul-pos W.scale_positive W.scale_positive) (omega arith) (W.each_rounds d g dm gn)
          ]
    ]

-- divisors that give a matrix give every other matrix that follows from any divisors
pub one_set : (q : Question) (x y : Divisors) (s t : List ℕ) → IsWeak q x s → IsWeak q y t → IsWeak q x t
one_set q x y s t S W = record {
  one_each = W.one_each;
  rows_add_up = W.rows_add_up;
  columns_add_up = W.columns_add_up;
  scale_positive = S.scale_positive;
  row_divisors = S.row_divisors;
  column_divisors = S.column_divisors;
  each_rounds = rounds_under q x y s t S W;
}

-- two matrices that may be drawn differ in a cell exactly if its fewest seats are less than its most
pub differ_in_range : (q : Question) (d g least most : ℕ) → HasRange q d g least most → DrawsDiffer q d g ↔ (least < most)
differ_in_range q d g least most range = (
  λ draws.
      elim (cases_lt least most) [
        | inl lt ↦ lt
        | inr le ↦
            absurd (draws.differ (omega (
              arith,
              range.at_least draws.seats draws.one,
              range.at_most draws.seats draws.one,
              range.at_least draws.others draws.other,
              range.at_most draws.others draws.other,
            )))
      ],
  λ lt. record {
    seats = range.least_drawn.seats;
    others = range.most_drawn.seats;
    one = range.least_drawn.drawn;
    other = range.most_drawn.drawn;
    differ = λ same. absurd (omega (arith, same, range.least_drawn.there, range.most_drawn.there));
  },
)
