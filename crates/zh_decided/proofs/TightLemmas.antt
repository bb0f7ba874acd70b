-- A cycle that is only a little cheaper than the potentials allow: its steps are nearly tight, and the matrix is nearly fair
-- once the cycle is cancelled.
use Rattle.std.proofs.Common.{◌≡◌, ◌≢◌, ℕ, zero, suc, ◌+◌, ◌-◌, ◌*◌, ◌<◌, ◌≤◌, ◌⊎◌, List, inl, inr, ⊎_elim, refl, ap, arith}
use Rattle.std.proofs.lemmas.Bool.{cases_eq}
use Rattle.zh_divisors.specs.Sums.{sum_to}
use Rattle.zh_divisors.proofs.CallerLemmas.{found_or_none, term-le-sum_to}
use Rattle.zh_matrices.specs.Fitting.{FitsVotes}
use Rattle.zh_matrices.specs.Question.{AreSeatTotals, Question, cell}
use Rattle.zh_matrices.proofs.CallerLemmas.{few-in-cell}
use Rattle.zh_decided.specs.Prices.{AreLogs, Logs, Priced, cells, priced, seat_price}
use Rattle.zh_decided.specs.Sweeps.{AreFair, CanPass, IsCircle, IsCycle, step_at}
use Rattle.zh_decided.specs.Turns.{IsTurned, one_at}
use Rattle.zh_decided.specs.declared.sweep_bounds.Bounds.{Bounds}
use Rattle.zh_decided.specs.declared.cycles.Cycle.{Cycle}
use Rattle.zh_decided.proofs.CheapestLemmas.{Rise, prices-rise}
use Rattle.zh_decided.proofs.CircleLemmas.{around, one_level_more}
use Rattle.zh_decided.proofs.PassLemmas.{one-else, one-here}

-- the sum of n equations h + k = f + g + s + e
slack-sum : (n s : ℕ) (f g h k e : ℕ → ℕ) → ((j : ℕ) → j < n → h j + k j ≡ f j + g j + s + e j) →
    sum_to n h + sum_to n k ≡ sum_to n f + sum_to n g + n * s + sum_to n e
slack-sum zero s f g h k e each = omega arith
slack-sum (suc n) s f g h k e each =
    omega (arith, slack-sum n s f g h k e (λ j lt. each j (omega arith)), each n (omega arith), one_level_more n s)

-- how much less a step could cost without making the potentials unfair
spare : Priced → Bounds → (ℕ → ℕ) → Cycle → ℕ → ℕ
spare m bounds x cycle j =
    m.next (step_at cycle.steps j).taker (step_at cycle.steps j).column + x (step_at cycle.steps j).giver
    - (x (step_at cycle.steps j).taker + m.last (step_at cycle.steps j).giver (step_at cycle.steps j).column + (bounds.given +
    bounds.taken))

-- each half of a step exceeds its slack by less than e
pub record IsTight (m : Priced) (bounds : Bounds) (cycle : Cycle) (x y : ℕ → ℕ) (e : ℕ) : Type 0 where
  pub given : (j : ℕ) → j < cycle.length →
      y (step_at cycle.steps j).column + m.next (step_at cycle.steps j).taker (step_at cycle.steps j).column
      < x (step_at cycle.steps j).taker + bounds.given + e
  pub taken : (j : ℕ) → j < cycle.length →
      x (step_at cycle.steps j).giver
      < y (step_at cycle.steps j).column + m.last (step_at cycle.steps j).giver (step_at cycle.steps j).column + bounds.taken + e

pub tight : (m : Priced) (bounds : Bounds) (cycle : Cycle) (x y : ℕ → ℕ) (more : ℕ) → AreFair m bounds 0 0 x y →
    IsCycle m (bounds.given + bounds.taken + more) cycle → IsTight m bounds cycle x y (cycle.length * more)
unfolding spare
tight m bounds cycle x y more fair C =
    let s : ℕ = bounds.given + bounds.taken in
    let next : ℕ → ℕ = λ j. m.next (step_at cycle.steps j).taker (step_at cycle.steps j).column in
    let last : ℕ → ℕ = λ j. m.last (step_at cycle.steps j).giver (step_at cycle.steps j).column in
    let each : (j : ℕ) → j < cycle.length → next j + x (step_at cycle.steps j).giver
    ≡ x (step_at cycle.steps j).taker + last j + s + spare m bounds x cycle j
    = λ j lt.
    let can : CanPass m.cells (step_at cycle.steps j) = C.circle.can_pass j lt in
    omega (
      arith,
      fair.given (step_at cycle.steps j).taker (step_at cycle.steps j).column can.taker can.column can.votes,
      fair.taken (step_at cycle.steps j).giver (step_at cycle.steps j).column can.giver can.column can.seat,
    ) in
    let sums : sum_to cycle.length next + sum_to cycle.length (λ j. x (step_at cycle.steps j).giver)
    ≡ sum_to cycle.length (λ j. x (step_at cycle.steps j).taker) + sum_to cycle.length last + cycle.length * s + sum_to cycle.length
    (spare m bounds x cycle)
    = slack-sum cycle.length s (λ j. x (step_at cycle.steps j).taker) last next (λ j. x (step_at cycle.steps j).giver) (spare m bounds x
    cycle) each in
    let slacks : cycle.length * (bounds.given + bounds.taken + more) ≡ cycle.length * s + cycle.length * more = omega arith in
    let few : sum_to cycle.length (spare m bounds x cycle) < cycle.length * more
    = omega (arith, sums, slacks, C.cheaper, around m.cells cycle C.circle x) in
    let small : (j : ℕ) → j < cycle.length → spare m bounds x cycle j < cycle.length * more
    = λ j lt. omega (arith, few, term-le-sum_to cycle.length (spare m bounds x cycle) j lt) in
    record {
      given = λ j lt.
          let can : CanPass m.cells (step_at cycle.steps j) = C.circle.can_pass j lt in
          omega (
            arith,
            small j lt,
            each j lt,
            fair.taken (step_at cycle.steps j).giver (step_at cycle.steps j).column can.giver can.column can.seat,
          );
      taken = λ j lt.
          let can : CanPass m.cells (step_at cycle.steps j) = C.circle.can_pass j lt in
          omega (
            arith,
            small j lt,
            each j lt,
            fair.given (step_at cycle.steps j).taker (step_at cycle.steps j).column can.taker can.column can.votes,
          );
    }

-- g is one of the first n values of f, or none of them
among : (n : ℕ) (f : ℕ → ℕ) (g : ℕ) → ((k : ℕ) × (k < n) × (g ≡ f k)) ⊎ ((k : ℕ) → k < n → g ≢ f k)
among n f g = found_or_none (λ k. g ≡ f k) (λ k. g ≢ f k) (λ k. cases_eq g (f k)) n

-- what is left of the bound of a row, and of a column, if the cell has u seats in place of v
given-turned : (p : ℕ → ℕ) (a b d u v x y given taken e : ℕ) → Rise p → u ≤ 400 → u + one_at a d ≡ v + one_at b d → x + given ≤ y + p v →
    (d ≡ a → x < y + p (v - 1) + taken + e) → x + given ≤ y + p u + (given + taken + e)
given-turned p a b d u v x y given taken e rise few moved fair tight = elim (cases_eq d a) [
  | inl gives ↦ elim (cases_eq d b) [
    | inl takes ↦
        let same : p u ≡ p v = ap p (omega (arith, one-here a d gives, one-here b d takes)) in
        omega arith
    | inr keeps ↦
        let less : p (v - 1) ≡ p u = ap p (omega (arith, one-here a d gives, one-else b d keeps)) in
        omega (arith, tight gives)
  ]
  | inr stays ↦ elim (cases_eq d b) [
    | inl takes ↦
        let more : u ≡ v + 1 = omega (arith, one-else a d stays, one-here b d takes) in
        let up : p v ≤ p u = rw more (rise v (omega arith)) in
        omega arith
    | inr keeps ↦
        let same : p u ≡ p v = ap p (omega (arith, one-else a d stays, one-else b d keeps)) in
        omega arith
  ]
]

taken-turned : (p : ℕ → ℕ) (a b d u v x y given taken e : ℕ) → Rise p → u ≤ 400 → u + one_at a d ≡ v + one_at b d → 0 < u →
    (0 < v → y + p (v - 1) + taken ≤ x) → (d ≡ b → y + p v < x + given + e) → y + p (u - 1) + taken ≤ x + (given + taken + e)
taken-turned p a b d u v x y given taken e rise few moved some fair tight = elim (cases_eq d a) [
  | inl gives ↦ elim (cases_eq d b) [
    | inl takes ↦
        let is : u ≡ v = omega (arith, one-here a d gives, one-here b d takes) in
        let same : p (u - 1) ≡ p (v - 1) = ap (λ n. p (n - 1)) is in
        omega (arith, fair (omega arith))
    | inr keeps ↦
        let is : v - 1 ≡ u - 1 + 1 = omega (arith, one-here a d gives, one-else b d keeps) in
        let up : p (u - 1) ≤ p (v - 1) = rw is (rise (u - 1) (omega arith)) in
        omega (arith, up, fair (omega (arith, one-here a d gives, one-else b d keeps)))
  ]
  | inr stays ↦ elim (cases_eq d b) [
    | inl takes ↦
        let same : p (u - 1) ≡ p v = ap p (omega (arith, one-else a d stays, one-here b d takes)) in
        omega (arith, tight takes)
    | inr keeps ↦
        let is : u ≡ v = omega (arith, one-else a d stays, one-else b d keeps) in
        let same : p (u - 1) ≡ p (v - 1) = ap (λ n. p (n - 1)) is in
        omega (arith, fair (omega arith))
  ]
]

-- after a tight cycle is cancelled, the potentials are fair up to the slacks and e
pub turned-fair : (q : Question) (l : Logs) (bounds : Bounds) (before after : List ℕ) (cycle : Cycle) (x y : ℕ → ℕ) (e : ℕ) → AreLogs l →
    AreSeatTotals q.rows q.row_totals → FitsVotes q after → AreFair (priced q l before) bounds 0 0 x y → IsCircle (cells q before) cycle →
    IsTight (priced q l before) bounds cycle x y e → IsTurned q cycle before after →
    AreFair (priced q l after) bounds (bounds.given + bounds.taken + e) (bounds.given + bounds.taken + e) x y
turned-fair q l bounds before after cycle x y e logs totals F fair C tight T =
    let column : ℕ → ℕ = λ k. (step_at cycle.steps k).column in
    record {
      given = λ d g dm gn votes. elim (among cycle.length column g) [
        | inl (k, kn, is) ↦
            let moved : cell q.columns after d g + one_at (step_at cycle.steps k).giver d
            ≡ cell q.columns before d g + one_at (step_at cycle.steps k).taker d
            = rw is (T.columns k d kn dm) in
            given-turned (seat_price l (d * q.columns + g)) (step_at cycle.steps k).giver (step_at cycle.steps k).taker d (cell q.columns
            after d g)
            (cell q.columns before d g) (x d) (y g) bounds.given bounds.taken e (prices-rise l (d * q.columns + g) logs)
            (few-in-cell q after totals F.rows_add_up d g dm gn) moved (omega (arith, fair.given d g dm gn votes))
            (λ gives. rw (gives, is) (tight.taken k kn))
        | inr away ↦
            let same : (priced q l after).next d g ≡ (priced q l before).next d g
            = ap (λ v. seat_price l (d * q.columns + g) v) (T.others d g dm gn away) in
            omega (arith, same, fair.given d g dm gn votes)
      ];
      taken = λ d g dm gn seat. elim (among cycle.length column g) [
        | inl (k, kn, is) ↦
            let moved : cell q.columns after d g + one_at (step_at cycle.steps k).giver d
            ≡ cell q.columns before d g + one_at (step_at cycle.steps k).taker d
            = rw is (T.columns k d kn dm) in
            taken-turned (seat_price l (d * q.columns + g)) (step_at cycle.steps k).giver (step_at cycle.steps k).taker d (cell q.columns
            after d g)
            (cell q.columns before d g) (x d) (y g) bounds.given bounds.taken e (prices-rise l (d * q.columns + g) logs)
            (few-in-cell q after totals F.rows_add_up d g dm gn) moved seat (λ some. omega (arith, fair.taken d g dm gn some))
            (λ takes. rw (takes, is) (tight.given k kn))
        | inr away ↦
            let was : cell q.columns after d g ≡ cell q.columns before d g = T.others d g dm gn away in
            let same : (priced q l after).last d g ≡ (priced q l before).last d g
            = ap (λ v. seat_price l (d * q.columns + g) (v - 1)) was in
            omega (arith, same, fair.taken d g dm gn (omega arith))
      ];
    }

-- some step has a giver that is not its taker, or none has
moving : (n : ℕ) (f g : ℕ → ℕ) → ((k : ℕ) × (k < n) × (f k ≢ g k)) ⊎ ((k : ℕ) → k < n → f k ≡ g k)
moving n f g = found_or_none (λ k. f k ≢ g k) (λ k. f k ≡ g k) (λ k. ⊎_elim inr inl (cases_eq (f k) (g k))) n

sum_to-above : (n s : ℕ) (f g : ℕ → ℕ) → ((j : ℕ) → j < n → f j + s ≤ g j) → sum_to n f + n * s ≤ sum_to n g
sum_to-above zero s f g each = omega arith
sum_to-above (suc n) s f g each = omega (
  arith,
  sum_to-above n s f g (λ j lt. each j (omega arith)),
  each n (omega arith),
  one_level_more
      n s,
)

-- if each next seat costs at least the last one plus the slack, cancelling a cycle makes a different matrix
pub differs : (q : Question) (l : Logs) (slack : ℕ) (before after : List ℕ) (cycle : Cycle) → IsCycle (priced q l before) slack cycle →
    IsTurned q cycle before after →
    ((d g : ℕ) → d < q.rows → g < q.columns → 0 < cell q.columns before d g →
    (priced q l before).last d g + slack ≤ (priced q l before).next d g) →
    (d : ℕ) × (g : ℕ) × (d < q.rows) × (g < q.columns) × (cell q.columns before d g ≢ cell q.columns after d g)
differs q l slack before after cycle C T gap =
    let m : Priced = priced q l before in
    let giver : ℕ → ℕ = λ j. (step_at cycle.steps j).giver in
    let taker : ℕ → ℕ = λ j. (step_at cycle.steps j).taker in
    let column : ℕ → ℕ = λ j. (step_at cycle.steps j).column in
    elim (moving cycle.length giver taker) [
      | inl (k, kn, differ) ↦
          let can : CanPass m.cells (step_at cycle.steps k) = C.circle.can_pass k kn in (
            giver k,
            column k,
            can.giver,
            can.column,
            λ same. omega (
              arith,
              T.columns k (giver k) kn can.giver,
              one-here (giver k) (giver k) refl,
              one-else (taker k) (giver k)
                  differ,
              same,
            ),
          )
      | inr all ↦
          let each : (j : ℕ) → j < cycle.length → m.last (giver j) (column j) + slack ≤ m.next (taker j) (column j)
          = λ j lt.
          let can : CanPass m.cells (step_at cycle.steps j) = C.circle.can_pass j lt in
          rw (← all j lt) (gap (giver j) (column j) can.giver can.column can.seat) in
          absurd (omega (
            arith,
            C.cheaper,
            sum_to-above cycle.length slack (λ j. m.last (giver j) (column j)) (λ j. m.next (taker j) (column j)) each,
          ))
    ]
