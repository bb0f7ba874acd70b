-- Cells bounded by their votes: no seats without votes, and any number with votes.
use Rattle.std.proofs.Common.{◌≡◌, ℕ, ◌+◌, ◌*◌, ◌<◌, ◌≤◌, Bool, true, false, cond, ltb, List, length, get_or, slice_index, refl, ◌∙◌, arith}
use Rattle.std.proofs.lemmas.Bool.{cond-false, cond-true, le-ltb, lt-ltb, ltb-true}
use Rattle.zh_divisors.specs.Sums.{sum_to}
use Rattle.zh_divisors.proofs.CallerLemmas.{cell-within, positive_term, sum_to-le, sum_to-zero, term-le-sum_to}
use Rattle.zh_matrices.specs.Fitting.{FitsVotes}
use Rattle.zh_matrices.specs.Question.{AreSeatTotals, Question, cell}
use Rattle.zh_decided.specs.Bounds.{CellBounds, IsWithin}
use Rattle.zh_decided.specs.Impossible.{HasTooFewSeats, is_among, seats_there, votes_among}
use Rattle.zh_decided.specs.Ways.{AreBlocked, AreBoundByVotes, ArePlaced, HasNoSource, column_seats}
use Rattle.zh_decided.proofs.CutLemmas.{closed-for, due-less, others-least}
use Rattle.zh_decided.proofs.ImpossibleLemmas.{seats_in, seats_of_rows}

-- the bounds that votes give
pub record AreVoteBounds (q : Question) (b : CellBounds) : Type 0 where
  pub none : (k : ℕ) → slice_index b.least k ≡ 0
  pub by_votes : AreBoundByVotes q b.most

most-none : (q : Question) (b : CellBounds) (d g : ℕ) → AreVoteBounds q b → d < q.rows → g < q.columns → cell q.columns q.votes d g ≡ 0 →
    cell q.columns b.most d g ≡ 0
most-none q b d g bounds dm gn none =
    bounds.by_votes (d * q.columns + g) (cell-within q.rows q.columns d g dm gn)
    ∙ cond-false (ltb 0 (cell q.columns q.votes d g)) 401 0 (le-ltb 0 (cell q.columns q.votes d g) (omega (arith, none)))

most-some : (q : Question) (b : CellBounds) (d g : ℕ) → AreVoteBounds q b → d < q.rows → g < q.columns → 0 < cell q.columns q.votes d g →
    cell q.columns b.most d g ≡ 401
most-some q b d g bounds dm gn some =
    bounds.by_votes (d * q.columns + g) (cell-within q.rows q.columns d g dm gn)
    ∙ cond-true (ltb 0 (cell q.columns q.votes d g)) 401 0 (lt-ltb 0 (cell q.columns q.votes d g) some)

-- a matrix within these bounds is a matrix on the votes
pub fits-within : (q : Question) (b : CellBounds) (seats : List ℕ) → AreVoteBounds q b → IsWithin q b seats → FitsVotes q seats
fits-within q b seats bounds within = record {
  one_each = within.one_each;
  rows_add_up = within.rows_add_up;
  columns_add_up = within.columns_add_up;
  on_votes = λ d g dm gn none. omega (arith, within.at_most d g dm gn, most-none q b d g bounds dm gn none);
}

kept-some : (b : Bool) (x : ℕ) → 0 < cond b x 0 → (b ≡ true) × (0 < x)
kept-some true x some = (refl, some)
kept-some false x some = absurd (omega arith)

kept-all : (b : Bool) (x : ℕ) → (b ≡ false → x ≡ 0) → x ≤ cond b x 0
kept-all true x none = omega arith
kept-all false x none = omega (arith, none refl)

-- a row with votes in a column is below its upper bound there
has-room : (q : Question) (b : CellBounds) (seats : List ℕ) (d g : ℕ) → AreVoteBounds q b → AreSeatTotals q.rows q.row_totals → ArePlaced q b seats →
    d < q.rows → g < q.columns → 0 < cell q.columns q.votes d g → cell q.columns seats d g < cell q.columns b.most d g
has-room q b seats d g bounds totals placed dm gn votes =
    let few : get_or q.row_totals d 0 ≤ 400 = totals.at_most_400 d 0 (omega (arith, totals.one_each)) in
    omega (
      arith,
      few,
      placed.rows d dm,
      term-le-sum_to q.columns (cell q.columns seats d) g gn,
      most-some q b d g bounds dm gn votes,
    )

-- in a column in which blocked rows have votes, they have all seats
there-le : (q : Question) (b : CellBounds) (seats : List ℕ) (rows : List Bool) → AreVoteBounds q b → AreSeatTotals q.rows q.row_totals →
    AreBlocked q b seats rows → (g : ℕ) → g < q.columns → (some : Bool) → ltb 0 (votes_among q rows g) ≡ some →
    cond some (slice_index q.column_totals g) 0 ≤ seats_in q rows seats g
there-le q b seats rows bounds totals blocked g gn false some = omega arith
there-le q b seats rows bounds totals blocked g gn true some =
    let (d, dm, positive) = positive_term q.rows (λ d. cond (is_among rows d) (cell q.columns q.votes d g) 0) (ltb-true _ _ some) in
    let (among, votes) = kept-some (is_among rows d) (cell q.columns q.votes d g) positive in
    let closed : HasNoSource q b seats blocked.ways g
    = closed-for q b seats rows blocked d g dm gn among (has-room q b seats d g bounds totals blocked.each_placed dm gn votes) in
    let all : column_seats q seats g ≤ seats_in q rows seats g
    = sum_to-le q.rows (λ e. cell q.columns seats e g) (λ e. cond (is_among rows e) (cell q.columns seats e g) 0) (λ e em.
    kept-all (is_among rows e) (cell q.columns seats e g) (λ not_among.
    omega (arith, others-least q b seats rows blocked e g em closed not_among, bounds.none (e * q.columns + g)))) in
    omega (arith, closed.full, all)

pub too_few : (q : Question) (b : CellBounds) (seats : List ℕ) (rows : List Bool) → AreVoteBounds q b → AreSeatTotals q.rows q.row_totals →
    AreBlocked q b seats rows → HasTooFewSeats q rows
too_few q b seats rows bounds totals blocked =
    let there : seats_there q rows ≤ sum_to q.columns (seats_in q rows seats)
    = sum_to-le q.columns _ _ (λ g gn. there-le q b seats rows bounds totals blocked g gn (ltb 0 (votes_among q rows g)) refl) in
    omega (arith, there, seats_of_rows q rows seats, due-less q b seats rows blocked)

-- all terms are 0
zero_sum : (n : ℕ) (f : ℕ → ℕ) → ((i : ℕ) → f i ≡ 0) → sum_to n f ≡ 0
zero_sum n f none = sum_to-zero n f (λ i lt. none i)

pub ArePlaced-none : (q : Question) (b : CellBounds) (seats : List ℕ) → AreVoteBounds q b → length seats ≡ q.rows * q.columns →
    ((k : ℕ) → get_or seats k 0 ≡ 0) → ArePlaced q b seats
ArePlaced-none q b seats bounds long none = record {
  one_each = long;
  rows = λ d dm. omega (arith, zero_sum q.columns (cell q.columns seats d) (λ g. none (d * q.columns + g)));
  columns = λ g gn. omega (arith, zero_sum q.rows (λ d. cell q.columns seats d g) (λ d. none (d * q.columns + g)));
  at_least = λ d g dm gn. omega (arith, bounds.none (d * q.columns + g));
  at_most = λ d g dm gn. omega (arith, none (d * q.columns + g));
}
