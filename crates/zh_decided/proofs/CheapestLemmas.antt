-- The cost of a matrix with fair potentials is least. With slacks, every other matrix costs more.
use Rattle.std.proofs.Common.{◌≡◌, ℕ, zero, suc, ◌+◌, ◌-◌, ◌*◌, ◌<◌, ◌≤◌, List, inl, inr, sym, ap, ◌∙◌, arith, add-one}
use Rattle.std.proofs.lemmas.Bool.{cases_lt, cases_order}
use Rattle.zh_divisors.specs.Sums.{sum_to}
use Rattle.zh_divisors.proofs.CallerLemmas.{sum_to-le, sum_to-suc}
use Rattle.zh_matrices.proofs.CallerLemmas.{few-in-cell, same_terms, total, total-add, weigh_columns, weigh_rows}
use Rattle.zh_matrices.specs.Fitting.{FitsVotes}
use Rattle.zh_matrices.specs.Question.{AreSeatTotals, Question, cell}
use Rattle.zh_decided.specs.Prices.{AreLogs, Logs, cost, priced, seat_price}
use Rattle.zh_decided.specs.Sweeps.{AreFair}
use Rattle.zh_decided.specs.declared.sweep_bounds.Bounds.{Bounds}
use Rattle.zh_decided.proofs.CircleLemmas.{one_level_more}

-- prices that do not fall up to seat 400
abbrev pub Rise : (ℕ → ℕ) → Type 0
Rise p = (j : ℕ) → j < 400 → p j ≤ p (j + 1)

risen : (p : ℕ → ℕ) (s n : ℕ) → Rise p → s + n ≤ 400 → p s ≤ p (s + n)
risen p s zero rise few = let at : s + 0 ≡ s = omega arith in rw at (omega arith)
risen p s (suc n) rise few =
    let at : s + suc n ≡ s + n + 1 = omega (arith, add-one n) in
    rw at (omega (arith, risen p s n rise (omega arith), rise (s + n) (omega arith)))

-- n seats after the first s cost at least n (x - y)
dearer : (p : ℕ → ℕ) (s n x y : ℕ) → Rise p → s + n ≤ 401 → x ≤ y + p s → sum_to s p + n * x ≤ sum_to (s + n) p + n * y
dearer p s zero x y rise few next = let at : s + 0 ≡ s = omega arith in rw at (omega arith)
dearer p s (suc n) x y rise few next =
    let at : s + suc n ≡ s + n + 1 = omega (arith, add-one n) in
    let before : sum_to s p + n * x ≤ sum_to (s + n) p + n * y = dearer p s n x y rise (omega arith) next in
    let up : p s ≤ p (s + n) = risen p s n rise (omega arith) in
    let sums : sum_to (s + suc n) p ≡ sum_to (s + n) p + p (s + n) = ap (λ k. sum_to k p) at ∙ sum_to-suc (s + n) p in
    omega (arith, before, up, next, sums, one_level_more n x, one_level_more n y)

-- the last n of t + n seats cost at most n (x - y)
cheaper : (p : ℕ → ℕ) (t n x y : ℕ) → Rise p → t + n ≤ 401 → (0 < n → y + p (t + n - 1) ≤ x) → sum_to (t + n) p + n * y ≤ sum_to t p + n * x
cheaper p t zero x y rise few last = let at : t + 0 ≡ t = omega arith in rw at (omega arith)
cheaper p t (suc n) x y rise few last =
    let at : t + suc n ≡ t + n + 1 = omega (arith, add-one n) in
    let top : t + suc n - 1 ≡ t + n = omega (arith, at) in
    let here : y + p (t + n) ≤ x = rw top at (last (omega arith)) in
    let before : sum_to (t + n) p + n * y ≤ sum_to t p + n * x = cheaper p t n x y rise (omega arith) (λ some.
    let up : p (t + n - 1) ≤ p (t + n - 1 + 1) = rise (t + n - 1) (omega arith) in
    let back : t + n - 1 + 1 ≡ t + n = omega arith in
    let below : p (t + n - 1) ≤ p (t + n) = rw back at up in
    omega (arith, here, below)) in
    let sums : sum_to (t + suc n) p ≡ sum_to (t + n) p + p (t + n) = ap (λ k. sum_to k p) at ∙ sum_to-suc (t + n) p in
    omega (arith, before, here, sums, one_level_more n x, one_level_more n y)

-- with the potentials taken into account, s seats of a cell cost no more than t
cell-cheapest : (p : ℕ → ℕ) (s t x y : ℕ) → Rise p → s ≤ 400 → t ≤ 400 → x ≤ y + p s → (0 < s → y + p (s - 1) ≤ x) →
    sum_to s p + x * t + y * s ≤ sum_to t p + x * s + y * t
cell-cheapest p s t x y rise few_s few_t next last = elim (cases_lt s t) [
  | inl less ↦
      let n : ℕ = t - s in
      let is : s + n ≡ t = omega arith in
      let more : sum_to s p + n * x ≤ sum_to (s + n) p + n * y = dearer p s n x y rise (omega arith) next in
      rw (← is) (omega (arith, more))
  | inr le ↦
      let n : ℕ = s - t in
      let is : t + n ≡ s = omega arith in
      let few : sum_to (t + n) p + n * y ≤ sum_to t p + n * x
      = cheaper p t n x y rise (omega arith) (λ some. rw is (last (omega arith))) in
      rw (← is) (omega (arith, few))
]

pub prices-rise : (l : Logs) (k : ℕ) → AreLogs l → Rise (seat_price l k)
prices-rise l k logs j lt = omega (arith, logs.rising j (omega (arith, logs.enough)))

total-le : (m n : ℕ) (f h : ℕ → ℕ → ℕ) → ((d g : ℕ) → d < m → g < n → f d g ≤ h d g) → total m n f ≤ total m n h
total-le m n f h below = sum_to-le m _ _ (λ d dm. sum_to-le n (f d) (h d) (λ g gn. below d g dm gn))

-- the cost of the seats of a cell, plus x for each seat that the other matrix has there, and y for each of its own
abbrev weighed : Question → Logs → (ℕ → ℕ) → (ℕ → ℕ) → List ℕ → List ℕ → ℕ → ℕ → ℕ
weighed q l x y seats others d g =
    sum_to (cell q.columns seats d g) (seat_price l (d * q.columns + g)) + x d * cell q.columns others d g + y g * cell q.columns seats d g

-- the potentials cancel out if both matrices have the same totals
weighed-alike : (q : Question) (l : Logs) (seats others : List ℕ) (x y : ℕ → ℕ) → FitsVotes q seats → FitsVotes q others →
    total q.rows q.columns (weighed q l x y seats others) + cost q l others
    ≡ total q.rows q.columns (λ d g. sum_to (cell q.columns others d g) (seat_price l (d * q.columns + g)) + x d * cell q.columns seats d g
    + y g * cell q.columns others d g) + cost q l seats
weighed-alike q l seats others x y F G =
    let s : ℕ → ℕ → ℕ = cell q.columns seats in
    let t : ℕ → ℕ → ℕ = cell q.columns others in
    let f : ℕ → ℕ → ℕ = λ d g. sum_to (s d g) (seat_price l (d * q.columns + g)) in
    let h : ℕ → ℕ → ℕ = λ d g. sum_to (t d g) (seat_price l (d * q.columns + g)) in
    let rows : total q.rows q.columns (λ d g. x d * s d g) ≡ total q.rows q.columns (λ d g. x d * t d g)
    = weigh_rows q.rows q.columns x s t (λ d dm. F.rows_add_up d dm ∙ sym (G.rows_add_up d dm)) in
    let columns : total q.rows q.columns (λ d g. y g * s d g) ≡ total q.rows q.columns (λ d g. y g * t d g)
    = weigh_columns q.rows q.columns y s t (λ g gn. F.columns_add_up g gn ∙ sym (G.columns_add_up g gn)) in
    omega (
      arith,
      rows,
      columns,
      total-add q.rows q.columns (λ d g. f d g + x d * t d g) (λ d g. y g * s d g),
      total-add q.rows q.columns f (λ d g. x d * t d g),
      total-add q.rows q.columns (λ d g. h d g + x d * s d g) (λ d g. y g * t d g),
      total-add q.rows q.columns h (λ d g. x d * s d g),
    )

-- the inequality for each cell
each-weighed : (q : Question) (l : Logs) (bounds : Bounds) (seats others : List ℕ) (x y : ℕ → ℕ) → AreLogs l →
    AreSeatTotals q.rows q.row_totals → AreFair (priced q l seats) bounds 0 0 x y → FitsVotes q seats → FitsVotes q others →
    (d g : ℕ) → d < q.rows → g < q.columns → weighed q l x y seats others d g
    ≤ sum_to (cell q.columns others d g) (seat_price l (d * q.columns + g)) + x d * cell q.columns seats d g + y g * cell q.columns others d g
each-weighed q l bounds seats others x y logs totals fair F G d g dm gn = elim (cases_lt 0 (cell q.columns q.votes d g)) [
  | inl votes ↦
      cell-cheapest (seat_price l (d * q.columns + g)) (cell q.columns seats d g) (cell q.columns others d g) (x d) (y g)
      (prices-rise l (d * q.columns + g) logs) (few-in-cell q seats totals F.rows_add_up d g dm gn) (few-in-cell q others totals G.rows_add_up d g dm gn)
      (omega (arith, fair.given d g dm gn votes)) (λ some. omega (arith, fair.taken d g dm gn some))
  | inr none ↦
      let no_seats : cell q.columns seats d g ≡ 0 = F.on_votes d g dm gn (omega arith) in
      let no_others : cell q.columns others d g ≡ 0 = G.on_votes d g dm gn (omega arith) in
      rw (no_seats, no_others) (omega arith)
]

pub cheapest : (q : Question) (l : Logs) (bounds : Bounds) (seats others : List ℕ) (x y : ℕ → ℕ) → AreLogs l →
    AreSeatTotals q.rows q.row_totals →
    AreFair (priced q l seats) bounds 0 0 x y → FitsVotes q seats → FitsVotes q others → cost q l seats ≤ cost q l others
cheapest q l bounds seats others x y logs totals fair F G =
    omega (
      arith,
      total-le q.rows q.columns _ _ (each-weighed q l bounds seats others x y logs totals fair F G),
      weighed-alike q l seats others x y F G,
    )

-- with slacks, any other number of seats of a cell costs more
cell-only : (p : ℕ → ℕ) (s t x y : ℕ) → Rise p → s ≤ 400 → t ≤ 400 → x + 1 ≤ y + p s → (0 < s → y + p (s - 1) + 1 ≤ x) →
    sum_to t p + x * s + y * t ≤ sum_to s p + x * t + y * s → t ≡ s
cell-only p s t x y rise few_s few_t next last costs = elim (cases_order s t) [
  | inl same ↦ sym same
  | inr (inl less) ↦
      let n : ℕ = t - s in
      let is : s + n ≡ t = omega arith in
      let more : sum_to s p + n * (x + 1) ≤ sum_to (s + n) p + n * y = dearer p s n (x + 1) y rise (omega arith) (omega (arith, next)) in
      let here : sum_to (s + n) p + x * s + y * (s + n) ≤ sum_to s p + x * (s + n) + y * s = rw is costs in
      absurd (omega (arith, more, here, less))
  | inr (inr more) ↦
      let n : ℕ = s - t in
      let is : t + n ≡ s = omega arith in
      let few : sum_to (t + n) p + n * (y + 1) ≤ sum_to t p + n * x
      = cheaper p t n x (y + 1) rise (omega arith) (λ some. rw is (omega (arith, last (omega arith)))) in
      let here : sum_to t p + x * (t + n) + y * t ≤ sum_to (t + n) p + x * t + y * (t + n) = rw is costs in
      absurd (omega (arith, few, here, more))
]

-- if no term is greater than its counterpart but the total is not smaller, the terms are equal
same-each : (m n : ℕ) (f h : ℕ → ℕ → ℕ) → ((d g : ℕ) → d < m → g < n → f d g ≤ h d g) → total m n h ≤ total m n f →
    (d g : ℕ) → d < m → g < n → h d g ≤ f d g
same-each m n f h below least d g dm gn =
    let rows : sum_to n (f d) ≡ sum_to n (h d)
    = same_terms m (λ e. sum_to n (f e)) (λ e. sum_to n (h e)) (λ e em. sum_to-le n (f e) (h e) (λ k kn. below e k em kn)) least d dm in
    let cells : f d g ≡ h d g = same_terms n (f d) (h d) (λ k kn. below d k dm kn) (omega (arith, rows)) g gn in
    omega (arith, cells)

-- with slacks, any other matrix costs more
pub only-cheapest : (q : Question) (l : Logs) (bounds : Bounds) (seats others : List ℕ) (x y : ℕ → ℕ) → AreLogs l →
    AreSeatTotals q.rows q.row_totals → AreFair (priced q l seats) bounds 0 0 x y → 1 ≤ bounds.given → 1 ≤ bounds.taken →
    FitsVotes q seats → FitsVotes q others → cost q l others ≤ cost q l seats →
    (d g : ℕ) → d < q.rows → g < q.columns → cell q.columns others d g ≡ cell q.columns seats d g
only-cheapest q l bounds seats others x y logs totals fair given taken F G costs d g dm gn = elim (cases_lt 0 (cell q.columns q.votes d g)) [
  | inl votes ↦
      cell-only (seat_price l (d * q.columns + g)) (cell q.columns seats d g) (cell q.columns others d g) (x d) (y g)
      (prices-rise l (d * q.columns + g) logs) (few-in-cell q seats totals F.rows_add_up d g dm gn) (few-in-cell q others totals G.rows_add_up d g dm gn)
      (omega (arith, fair.given d g dm gn votes)) (λ some. omega (arith, fair.taken d g dm gn some))
      (same-each q.rows q.columns _ _ (each-weighed q l bounds seats others x y logs totals fair F G)
      (omega (arith, weighed-alike q l seats others x y F G)) d g dm gn)
  | inr none ↦ G.on_votes d g dm gn (omega arith) ∙ sym (F.on_votes d g dm gn (omega arith))
]
