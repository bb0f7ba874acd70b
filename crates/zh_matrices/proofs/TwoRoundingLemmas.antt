-- Two matrices with the same totals that follow from two sets of divisors by two kinds of rounding.
use Rattle.std.proofs.Common.{◌≡◌, ℕ, ◌+◌, ◌*◌, ◌<◌, ◌≤◌, Bool, true, false, cond, leb, ltb, List, slice_index, sym, ◌∙◌, inl, inr, arith}
use Rattle.std.proofs.lemmas.Bool.{leb-true, leb-false, ltb-true, ltb-false, le-leb, le-ltb, cases_lt}
use Rattle.std.proofs.Math.Nat.{le_of_eq, le_of_lt, mul-pos}
use Rattle.zh_divisors.specs.Sums.{sum_to}
use Rattle.zh_divisors.proofs.CallerLemmas.{same_table}
use Rattle.zh_matrices.specs.Divisors.{Divisors}
use Rattle.zh_matrices.specs.Question.{Question, cell}
use Rattle.zh_matrices.specs.SeatMatrix.{Follows}
use Rattle.zh_matrices.proofs.CellLemmas.{chain, one_if, weighed}
use Rattle.zh_matrices.proofs.SumLemmas.{total-add, same_cells, weigh_rows, weigh_columns, same_terms}

-- in one cell a divisor that is not smaller gives no more seats by the second rounding than the other gives by the first, and a
-- divisor that is not larger gives no fewer
pub record Separates (P Q : ℕ → ℕ → ℕ → Type 0) : Type 0 where
  pub fewer : (v k k' p p' s s' : ℕ) → 0 < k' → P (v * k) p s → Q (v * k') p' s' → p * k' ≤ p' * k → s' ≤ s
  pub more : (v k k' p p' s s' : ℕ) → 0 < k' → P (v * k) p s → Q (v * k') p' s' → p' * k ≤ p * k' → s ≤ s'

-- if t is at most s in the rows of a outside the columns of b, and at least s in the columns of b outside the rows of a,
-- then t equals s in the rows of a outside the columns of b
pub block : (m n : ℕ) (a b : ℕ → Bool) (s t : ℕ → ℕ → ℕ) →
    ((d : ℕ) → d < m → sum_to n (λ g. s d g) ≡ sum_to n (λ g. t d g)) →
    ((g : ℕ) → g < n → sum_to m (λ d. s d g) ≡ sum_to m (λ d. t d g)) →
    ((d g : ℕ) → d < m → g < n → a d ≡ true → b g ≡ false → t d g ≤ s d g) →
    ((d g : ℕ) → d < m → g < n → a d ≡ false → b g ≡ true → s d g ≤ t d g) →
    (e f : ℕ) → e < m → f < n → a e ≡ true → b f ≡ false → t e f ≡ s e f
block m n a b s t rows columns least most e f em fn ae bf =
    let cells : (d g : ℕ) → d < m → g < n →
    one_if (a d) * t d g + one_if (b g) * s d g ≤ one_if (a d) * s d g + one_if (b g) * t d g
    = λ d g dm gn. weighed (a d) (b g) (s d g) (t d g) (least d g dm gn) (most d g dm gn) in
    let p = weigh_rows m n (λ d. one_if (a d)) s t rows in
    let q = weigh_columns m n (λ g. one_if (b g)) s t columns in
    let x = total-add m n (λ d g. one_if (a d) * t d g) (λ d g. one_if (b g) * s d g) in
    let y = total-add m n (λ d g. one_if (a d) * s d g) (λ d g. one_if (b g) * t d g) in
    let same : one_if (a e) * t e f + one_if (b f) * s e f ≡ one_if (a e) * s e f + one_if (b f) * t e f
    = same_cells m n (λ d g. one_if (a d) * t d g + one_if (b g) * s d g) (λ d g. one_if (a d) * s d g + one_if (b g) * t d g)
    cells (omega (arith, p, q, x, y)) e f em fn in
    let simpler : cond true 1 0 * t e f + cond false 1 0 * s e f ≡ cond true 1 0 * s e f + cond false 1 0 * t e f
    = rw (ae, bf) at same in
    omega (arith, simpler)

-- the square of the scale
abbrev unit : Divisors → ℕ
unit x = x.scale * x.scale

-- a cell whose product of divisors is not smaller under y than under x has the same seats
same_above : (P Q : ℕ → ℕ → ℕ → Type 0) → Separates P Q → (q : Question) (x y : Divisors) (s t : List ℕ) → Follows P q x s → Follows Q q y t →
    (e f : ℕ) → e < q.rows → f < q.columns →
    slice_index x.of_rows e * (slice_index x.of_columns f * unit y) ≤ slice_index y.of_rows e * (slice_index y.of_columns f * unit x) →
    cell q.columns t e f ≡ cell q.columns s e f
same_above P Q apart q x y s t S W e f em fn above =
    let row : ℕ → ℕ = λ d. slice_index x.of_rows d in
    let row' : ℕ → ℕ = λ d. slice_index y.of_rows d in
    let column : ℕ → ℕ = λ g. slice_index x.of_columns g * unit y in
    let column' : ℕ → ℕ = λ g. slice_index y.of_columns g * unit x in
    let xe : 0 < row e = S.row_divisors e em in
    let ye : 0 < row' e = W.row_divisors e em in
    block q.rows q.columns (λ d. leb (row' e * row d) (row' d * row e)) (λ g. ltb (row' e * column' g) (row e * column g))
    (cell q.columns s) (cell q.columns t)
    (λ d dm. S.rows_add_up d dm ∙ sym (W.rows_add_up d dm))
    (λ g gn. S.columns_add_up g gn ∙ sym (W.columns_add_up g gn))
    (λ d g dm gn a b.
    let h : row d * column g ≤ row' d * column' g
    = chain (row e) (row' e) (row d) (row' d) (column g) (column' g) xe ye (leb-true _ _ a) (ltb-false _ _ b) in
    apart.fewer (cell q.columns q.votes d g) (unit x) (unit y) _ _ _ _ (mul-pos W.scale_positive W.scale_positive)
    (S.each_rounds d g dm gn) (W.each_rounds d g dm gn) (omega (arith, h)))
    (λ d g dm gn a b.
    let i : row e * row' d ≤ row d * row' e = omega (arith, leb-false _ _ a) in
    let h : row' d * column' g ≤ row d * column g
    = chain (row' e) (row e) (row' d) (row d) (column' g) (column g) ye xe i (le_of_lt (ltb-true _ _ b)) in
    apart.more (cell q.columns q.votes d g) (unit x) (unit y) _ _ _ _ (mul-pos W.scale_positive W.scale_positive)
    (S.each_rounds d g dm gn) (W.each_rounds d g dm gn) (omega (arith, h)))
    e f em fn
    (le-leb (row' e * row e) (row' e * row e) (omega arith))
    (le-ltb _ _ above)

no_fewer : (P Q : ℕ → ℕ → ℕ → Type 0) → Separates P Q → (q : Question) (x y : Divisors) (s t : List ℕ) → Follows P q x s → Follows Q q y t →
    (d g : ℕ) → d < q.rows → g < q.columns → cell q.columns s d g ≤ cell q.columns t d g
no_fewer P Q apart q x y s t S W d g dm gn =
    elim (cases_lt (slice_index y.of_rows d * (slice_index y.of_columns g * unit x)) (slice_index x.of_rows d * (slice_index x.of_columns g * unit y))) [
      | inl lt ↦
          apart.more (cell q.columns q.votes d g) (unit x) (unit y) _ _ _ _ (mul-pos W.scale_positive W.scale_positive)
          (S.each_rounds d g dm gn) (W.each_rounds d g dm gn) (omega (arith, lt))
      | inr le ↦ le_of_eq (sym (same_above P Q apart q x y s t S W d g dm gn le))
    ]

same_cell : (P Q : ℕ → ℕ → ℕ → Type 0) → Separates P Q → (q : Question) (x y : Divisors) (s t : List ℕ) → Follows P q x s → Follows Q q y t →
    (d g : ℕ) → d < q.rows → g < q.columns → cell q.columns t d g ≡ cell q.columns s d g
same_cell P Q apart q x y s t S W d g dm gn =
    sym (same_terms q.columns (cell q.columns s d) (cell q.columns t d)
    (λ j jn. no_fewer P Q apart q x y s t S W d j dm jn)
    (le_of_eq (W.rows_add_up d dm ∙ sym (S.rows_add_up d dm)))
    g gn)

-- under any other divisors the seats are the same
pub same_seats : (P Q : ℕ → ℕ → ℕ → Type 0) → Separates P Q → (q : Question) (x y : Divisors) (s t : List ℕ) → Follows P q x s → Follows Q q y t → t ≡ s
same_seats P Q apart q x y s t S W =
    same_table q.rows q.columns t s W.one_each S.one_each (same_cell P Q apart q x y s t S W)
