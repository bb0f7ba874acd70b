-- Rows whose votes lie in columns that together have fewer seats than these rows.
use Rattle.std.proofs.Common.{◌≡◌, ℕ, ◌-◌, ◌*◌, ◌<◌, ◌≤◌, Bool, true, false, cond, ltb, List, slice_index, refl, sym, ◌∙◌, inl, inr, arith}
use Rattle.std.proofs.lemmas.Bool.{cases_lt, ltb-false}
use Rattle.std.proofs.Math.Nat.{mul-le-mul_right, mul-pos}
use Rattle.zh_divisors.specs.Sums.{sum_to}
use Rattle.zh_divisors.proofs.CallerLemmas.{sum_to-ext, sum_to-le, sum_to-zero, term-le-sum_to}
use Rattle.zh_matrices.specs.Divisors.{Divisors}
use Rattle.zh_matrices.specs.Fitting.{FitsVotes}
use Rattle.zh_decided.specs.Impossible.{HasTooFewSeats, is_among, seats_due, seats_there, votes_among}
use Rattle.zh_matrices.specs.Question.{Question, cell}
use Rattle.zh_matrices.specs.SeatMatrix.{IsWeak, MayRound}
use Rattle.zh_matrices.proofs.CallerLemmas.{total-swap}

-- a cell without votes gets no seats under positive divisors
no_votes-no_seats : (k p s : ℕ) → 0 < p → MayRound (0 * k) p s → s ≡ 0
no_votes-no_seats k p s positive rounds = elim (cases_lt 0 s) [
  | inl some ↦
      let low : (2 * s - 1) * p ≤ 2 * (0 * k) = rounds.from_lower (omega arith) in
      let once : 1 * p ≤ (2 * s - 1) * p = mul-le-mul_right p (omega arith) in
      absurd (omega arith)
  | inr none ↦ omega arith
]

-- seats that follow weakly are a matrix on the votes
pub fits-weak : (q : Question) (x : Divisors) (seats : List ℕ) → IsWeak q x seats → FitsVotes q seats
fits-weak q x seats W = record {
  one_each = W.one_each;
  rows_add_up = W.rows_add_up;
  columns_add_up = W.columns_add_up;
  on_votes = λ d g dm gn none.
      no_votes-no_seats (x.scale * x.scale) _ _ (mul-pos (W.row_divisors d dm) (W.column_divisors g gn)) (rw none at (W.each_rounds d g dm gn));
}

-- the seats of these rows in column g
abbrev pub seats_in : Question → List Bool → List ℕ → ℕ → ℕ
seats_in q rows seats g = sum_to q.rows (λ d. cond (is_among rows d) (cell q.columns seats d g) 0)

kept-le : (b : Bool) (x : ℕ) → cond b x 0 ≤ x
kept-le true x = omega arith
kept-le false x = omega arith

pub kept-same : (b : Bool) (x y : ℕ) → (b ≡ true → x ≡ y) → cond b x 0 ≡ cond b y 0
kept-same true x y same = same refl
kept-same false x y same = refl

kept-none : (b : Bool) (x : ℕ) → (b ≡ true → x ≡ 0) → cond b x 0 ≡ 0
kept-none true x none = none refl
kept-none false x none = refl

-- the sum of a row that is kept or left out
sum_to-kept : (n : ℕ) (b : Bool) (f : ℕ → ℕ) → sum_to n (λ g. cond b (f g) 0) ≡ cond b (sum_to n f) 0
sum_to-kept n true f = refl
sum_to-kept n false f = sum_to-zero n (λ g. 0) (λ g lt. refl)

-- the seats of these rows, summed row by row or column by column
pub seats_of_rows : (q : Question) (rows : List Bool) (seats : List ℕ) →
    sum_to q.rows (λ d. cond (is_among rows d) (sum_to q.columns (cell q.columns seats d)) 0) ≡ sum_to q.columns (seats_in q rows seats)
seats_of_rows q rows seats =
    sym (sum_to-ext q.rows _ _ (λ d lt. sum_to-kept q.columns (is_among rows d) (cell q.columns seats d)))
    ∙ total-swap q.rows q.columns (λ d g. cond (is_among rows d) (cell q.columns seats d g) 0)

-- if these rows have no votes in a column, each of them has none
row-none : (q : Question) (rows : List Bool) (g d : ℕ) → votes_among q rows g ≤ 0 → d < q.rows → is_among rows d ≡ true →
    cell q.columns q.votes d g ≡ 0
row-none q rows g d none dm among =
    let term : cond (is_among rows d) (cell q.columns q.votes d g) 0 ≤ votes_among q rows g
    = term-le-sum_to q.rows (λ e. cond (is_among rows e) (cell q.columns q.votes e g) 0) d dm in
    let here : cond true (cell q.columns q.votes d g) 0 ≤ votes_among q rows g = rw among at term in
    omega arith

-- in a matrix on the votes, these rows have at most the total of a column in which they have votes, and no seats in the other
-- columns
seats_in-le : (q : Question) (rows : List Bool) (seats : List ℕ) → FitsVotes q seats → (g : ℕ) → g < q.columns →
    (b : Bool) → ltb 0 (votes_among q rows g) ≡ b → seats_in q rows seats g ≤ cond b (slice_index q.column_totals g) 0
seats_in-le q rows seats F g gn true some =
    omega (
      arith,
      F.columns_add_up g gn,
      sum_to-le q.rows (λ d. cond (is_among rows d) (cell q.columns seats d g) 0) (λ d. cell q.columns seats d g)
          (λ d lt. kept-le (is_among rows d) (cell q.columns seats d g)),
    )
seats_in-le q rows seats F g gn false none =
    omega (
      arith,
      sum_to-zero q.rows (λ d. cond (is_among rows d) (cell q.columns seats d g) 0) (λ d lt.
          kept-none (is_among rows d) (cell q.columns seats d g) (λ among.
          F.on_votes d g lt gn (row-none q rows g d (ltb-false _ _ none) lt among))),
    )

-- if rows have too few seats, there is no matrix
pub no_matrix : (q : Question) (rows : List Bool) → HasTooFewSeats q rows → (seats : List ℕ) → ¬ FitsVotes q seats
no_matrix q rows few seats F =
    let due : seats_due q rows ≡ sum_to q.rows (λ d. cond (is_among rows d) (sum_to q.columns (cell q.columns seats d)) 0)
    = sum_to-ext q.rows _ _ (λ d lt. kept-same (is_among rows d) _ _ (λ among. sym (F.rows_add_up d lt))) in
    let there : sum_to q.columns (seats_in q rows seats) ≤ seats_there q rows
    = sum_to-le q.columns _ _ (λ g lt. seats_in-le q rows seats F g lt (ltb 0 (votes_among q rows g)) refl) in
    omega (arith, due, there, seats_of_rows q rows seats, few)

pub no_divisors : (q : Question) (rows : List Bool) → HasTooFewSeats q rows → (x : Divisors) (seats : List ℕ) → ¬ IsWeak q x seats
no_divisors q rows few x seats W = no_matrix q rows few seats (fits-weak q x seats W)
