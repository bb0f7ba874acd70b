-- A seat that moves within a column: the cells, the sums of rows and columns, and the cost.
use Rattle.std.proofs.Common.{◌≡◌, ◌≢◌, ℕ, ◌+◌, ◌-◌, ◌*◌, ◌<◌, ◌≤◌, cond, List, length, set, inl, inr, refl, sym, ap, ◌∙◌, arith}
use Rattle.std.proofs.lemmas.Bool.{cases_eq, eq-eqb, ne_eqb}
use Rattle.std.proofs.lemmas.List.{get_or-set_other, get_or-set_same, length-set}
use Rattle.zh_divisors.specs.Sums.{sum_to}
use Rattle.zh_divisors.proofs.CallerLemmas.{cell-within, sum_to-ext, sum_to-le, sum_to-suc}
use Rattle.zh_matrices.proofs.CallerLemmas.{sum_to-add}
use Rattle.zh_matrices.specs.Question.{Question, cell}
use Rattle.zh_decided.specs.Prices.{Logs, Priced, cost, priced, row_cost, seat_price}
use Rattle.zh_decided.specs.Turns.{PassesOn, one_at}
use Rattle.zh_decided.specs.declared.cycles.Transfer.{Transfer}
use Rattle.zh_decided.proofs.OneMoreLemmas.{sum_to-lowered, sum_to-shifted, sum_to-single}
use Rattle.zh_decided.proofs.PathTurnLemmas.{columns-differ, rows-differ}

-- `one_at` is 1 at its row
pub one-here : (a d : ℕ) → d ≡ a → one_at a d ≡ 1
one-here a d is = ap (λ b. cond b 1 0) (eq-eqb d a is)

pub one-else : (a d : ℕ) → d ≢ a → one_at a d ≡ 0
one-else a d differ = ap (λ b. cond b 1 0) (ne_eqb d a differ)

sum_to-one : (n a : ℕ) → a < n → sum_to n (one_at a) ≡ 1
sum_to-one n a lt = sum_to-single n (one_at a) a lt (λ d below. one-else a d) ∙ one-here a a refl

-- the value of f at row a, and 0 at the other rows
only : ℕ → (ℕ → ℕ) → ℕ → ℕ
only a f d = one_at a d * f d

only-here : (a d : ℕ) (f : ℕ → ℕ) → d ≡ a → only a f d ≡ f d
unfolding only
only-here a d f is = rw (one-here a d is) (omega arith)

only-else : (a d : ℕ) (f : ℕ → ℕ) → d ≢ a → only a f d ≡ 0
unfolding only
only-else a d f differ = rw (one-else a d differ) (omega arith)

sum_to-only : (n a : ℕ) (f : ℕ → ℕ) → a < n → sum_to n (only a f) ≡ f a
sum_to-only n a f lt = sum_to-single n (only a f) a lt (λ d below. only-else a d f) ∙ only-here a a f refl

-- what a cell contains after a cell was written
written-here : (q : Question) (s : List ℕ) (a c v d : ℕ) → length s ≡ q.rows * q.columns → a < q.rows → c < q.columns → d ≡ a →
    cell q.columns (set s (a * q.columns + c) v) d c ≡ v
written-here q s a c v d long an cn is =
    rw is (get_or-set_same s (a * q.columns + c) v 0 (omega (arith, long, cell-within q.rows q.columns a c an cn)))

written-else : (q : Question) (s : List ℕ) (a c v d : ℕ) → c < q.columns → d ≢ a →
    cell q.columns (set s (a * q.columns + c) v) d c ≡ cell q.columns s d c
written-else q s a c v d cn differ =
    get_or-set_other s (a * q.columns + c) (d * q.columns + c) v 0 (rows-differ q.columns a c d c cn cn differ)

written-column : (q : Question) (s : List ℕ) (a c v d g : ℕ) → c < q.columns → g < q.columns → g ≢ c →
    cell q.columns (set s (a * q.columns + c) v) d g ≡ cell q.columns s d g
written-column q s a c v d g cn gn differ =
    get_or-set_other s (a * q.columns + c) (d * q.columns + g) v 0 (columns-differ q.columns a c d g cn gn differ)

-- the giver's cell loses a seat, and then the taker's cell gets one
pub PassesOn-of : (q : Question) (s : List ℕ) (step : Transfer) → length s ≡ q.rows * q.columns → step.giver < q.rows → step.taker < q.rows →
    step.column < q.columns → 0 < cell q.columns s step.giver step.column →
    (m : List ℕ) → m ≡ set s (step.giver * q.columns + step.column) (cell q.columns s step.giver step.column - 1) →
    PassesOn q s (set m (step.taker * q.columns + step.column) (cell q.columns m step.taker step.column + 1)) step
PassesOn-of q s step long an bn cn some m is =
    let c : ℕ = step.column in
    let more : ℕ = cell q.columns m step.taker step.column + 1 in
    let less : ℕ = cell q.columns s step.giver step.column - 1 in
    let long_m : length m ≡ q.rows * q.columns = ap length is ∙ length-set s (step.giver * q.columns + c) less ∙ long in
    let middle : (d : ℕ) → d < q.rows → cell q.columns m d c + one_at step.giver d ≡ cell q.columns s d c
    = λ d dm. elim (cases_eq d step.giver) [
      | inl same ↦
          let now : cell q.columns m d c ≡ less
          = ap (λ xs. cell q.columns xs d c) is ∙ written-here q s step.giver c less d long an cn same in
          let was : cell q.columns s d c ≡ cell q.columns s step.giver c = ap (λ e. cell q.columns s e c) same in
          omega (arith, now, was, one-here step.giver d same)
      | inr other ↦
          let now : cell q.columns m d c ≡ cell q.columns s d c
          = ap (λ xs. cell q.columns xs d c) is ∙ written-else q s step.giver c less d cn other in
          omega (arith, now, one-else step.giver d other)
    ] in
    record {
      one_each = length-set m (step.taker * q.columns + c) more ∙ long_m ∙ sym long;
      column = λ d dm. elim (cases_eq d step.taker) [
        | inl same ↦
            let now : cell q.columns (set m (step.taker * q.columns + c) more) d c ≡ more
            = written-here q m step.taker c more d long_m bn cn same in
            let was : cell q.columns m d c ≡ cell q.columns m step.taker c = ap (λ e. cell q.columns m e c) same in
            omega (arith, now, was, middle d dm, one-here step.taker d same)
        | inr other ↦
            let now : cell q.columns (set m (step.taker * q.columns + c) more) d c ≡ cell q.columns m d c
            = written-else q m step.taker c more d cn other in
            omega (arith, now, middle d dm, one-else step.taker d other)
      ];
      others = λ d g dm gn differ.
          written-column q m step.taker c more d g cn gn differ
          ∙ ap (λ xs. cell q.columns xs d g) is ∙ written-column q s step.giver c less d g cn gn differ;
    }

-- the seats of a row
pub row-passed : (q : Question) (s t : List ℕ) (step : Transfer) → step.column < q.columns → PassesOn q s t step → (d : ℕ) → d < q.rows →
    sum_to q.columns (cell q.columns t d) + one_at step.giver d ≡ sum_to q.columns (cell q.columns s d) + one_at step.taker d
row-passed q s t step cn P d dm =
    sum_to-shifted q.columns (cell q.columns t d) (cell q.columns s d) step.column (one_at step.giver d) (one_at step.taker d) cn
    (λ g gn differ. P.others d g dm gn differ) (P.column d dm)

-- the seats of a column
pub column-passed : (q : Question) (s t : List ℕ) (step : Transfer) → step.giver < q.rows → step.taker < q.rows → PassesOn q s t step →
    (g : ℕ) → g < q.columns → sum_to q.rows (λ d. cell q.columns t d g) ≡ sum_to q.rows (λ d. cell q.columns s d g)
column-passed q s t step an bn P g gn = elim (cases_eq g step.column) [
  | inl is ↦
      let c : ℕ = step.column in
      let both : sum_to q.rows (λ d. cell q.columns t d c + one_at step.giver d)
      ≡ sum_to q.rows (λ d. cell q.columns s d c + one_at step.taker d)
      = sum_to-ext q.rows _ _ (λ d dm. P.column d dm) in
      rw is (omega (
        arith,
        both,
        sum_to-add q.rows (λ d. cell q.columns t d c) (one_at step.giver),
        sum_to-add q.rows (λ d. cell q.columns s d c) (one_at step.taker),
        sum_to-one q.rows step.giver an,
        sum_to-one q.rows step.taker bn,
      ))
  | inr other ↦ sum_to-ext q.rows _ _ (λ d dm. P.others d g dm gn other)
]

-- a sum with one more term
one_more : (p : ℕ → ℕ) (u v : ℕ) → v ≡ u + 1 → sum_to v p ≡ sum_to u p + p u
one_more p u v is = ap (λ n. sum_to n p) is ∙ sum_to-suc u p

-- the cost of one cell, with v seats before and u seats afterwards
cell-cost : (p : ℕ → ℕ) (a b d u v : ℕ) → u + one_at a d ≡ v + one_at b d → (d ≡ a → 0 < v) → (d ≡ a → p (v - 1) ≤ p v) →
    sum_to u p + only a (λ e. p (v - 1)) d ≤ sum_to v p + only b (λ e. p v) d
cell-cost p a b d u v moved some rising = elim (cases_eq d a) [
  | inl gives ↦
      let out : only a (λ e. p (v - 1)) d ≡ p (v - 1) = only-here a d (λ e. p (v - 1)) gives in
      elim (cases_eq d b) [
        | inl takes ↦
            let same : u ≡ v = omega (arith, one-here a d gives, one-here b d takes) in
            let sums : sum_to u p ≡ sum_to v p = ap (λ n. sum_to n p) same in
            omega (arith, out, sums, only-here b d (λ e. p v) takes, rising gives)
        | inr keeps ↦
            let fewer : v ≡ u + 1 = omega (arith, one-here a d gives, one-else b d keeps) in
            let last : p (v - 1) ≡ p u = ap p (omega arith) in
            omega (arith, out, last, one_more p u v fewer, only-else b d (λ e. p v) keeps)
      ]
  | inr stays ↦
      let out : only a (λ e. p (v - 1)) d ≡ 0 = only-else a d (λ e. p (v - 1)) stays in
      elim (cases_eq d b) [
        | inl takes ↦
            let more : u ≡ v + 1 = omega (arith, one-else a d stays, one-here b d takes) in
            omega (arith, out, one_more p v u more, only-here b d (λ e. p v) takes)
        | inr keeps ↦
            let same : u ≡ v = omega (arith, one-else a d stays, one-else b d keeps) in
            let sums : sum_to u p ≡ sum_to v p = ap (λ n. sum_to n p) same in
            omega (arith, out, sums, only-else b d (λ e. p v) keeps)
      ]
]

-- the cost falls by the price of the giver's last seat and rises by at most that of the taker's next seat
pub cost-passed : (q : Question) (l : Logs) (s t : List ℕ) (step : Transfer) → step.giver < q.rows → step.taker < q.rows →
    step.column < q.columns →
    0 < cell q.columns s step.giver step.column →
    (seat_price l (step.giver * q.columns + step.column) (cell q.columns s step.giver step.column - 1)
    ≤ seat_price l (step.giver * q.columns + step.column) (cell q.columns s step.giver step.column)) → PassesOn q s t step →
    cost q l t + (priced q l s).last step.giver step.column ≤ cost q l s + (priced q l s).next step.taker step.column
unfolding only
cost-passed q l s t step an bn cn some rising P =
    let c : ℕ = step.column in
    let m : Priced = priced q l s in
    let rows : (d : ℕ) → d < q.rows → row_cost q l t d + only step.giver (λ e. m.last e c) d
    ≤ row_cost q l s d + only step.taker (λ e. m.next e c) d
    = λ d dm. sum_to-lowered q.columns
    (λ g. sum_to (cell q.columns t d g) (seat_price l (d * q.columns + g))) (λ g. sum_to (cell q.columns s d g) (seat_price l (d *
    q.columns + g)))
    c (only step.giver (λ e. m.last e c) d) (only step.taker (λ e. m.next e c) d) cn
    (λ g gn differ. ap (λ n. sum_to n (seat_price l (d * q.columns + g))) (P.others d g dm gn differ))
    (cell-cost (seat_price l (d * q.columns + c)) step.giver step.taker d (cell q.columns t d c) (cell q.columns s d c) (P.column d dm)
    (λ is. rw is some) (λ is. rw is rising)) in
    let sums : sum_to q.rows (λ d. row_cost q l t d + only step.giver (λ e. m.last e c) d)
    ≤ sum_to q.rows (λ d. row_cost q l s d + only step.taker (λ e. m.next e c) d) = sum_to-le q.rows _ _ rows in
    omega (
      arith,
      sums,
      sum_to-add q.rows (row_cost q l t) (only step.giver (λ e. m.last e c)),
      sum_to-add q.rows (row_cost q l s) (only step.taker (λ e. m.next e c)),
      sum_to-only q.rows step.giver (λ e. m.last e c) an,
      sum_to-only q.rows step.taker (λ e. m.next e c) bn,
    )
