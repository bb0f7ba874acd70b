-- The circle into which a trail is closed.
use Rattle.std.proofs.Common.{◌≡◌, ℕ, zero, suc, add-one, ◌+◌, ◌-◌, ◌*◌, ◌<◌, ◌≤◌, Some, List, inl, inr, refl, sym, ap, ◌∙◌, arith}
use Rattle.std.proofs.lemmas.Bool.{cases_eq}
use Rattle.std.proofs.Math.Nat.{mul-le-mul_left}
use Rattle.zh_divisors.specs.Sums.{sum_to}
use Rattle.zh_divisors.proofs.CallerLemmas.{sum_to-ext}
use Rattle.zh_decided.specs.Levels.{IsTrail, MakesRow, potential_at}
use Rattle.zh_decided.specs.Prices.{Cells, Priced}
use Rattle.zh_decided.specs.Sweeps.{AreFair, CanPass, IsCircle, IsCycle, last_prices, next_prices, step_at}
use Rattle.zh_decided.specs.declared.sweep_bounds.Bounds.{Bounds}
use Rattle.zh_decided.specs.declared.cycles.Cycle.{Cycle}
use Rattle.zh_decided.specs.declared.prices.Mark.{Mark}
use Rattle.zh_decided.specs.declared.cycles.Trail.{Trail}
use Rattle.zh_decided.proofs.ChainLemmas.{along}
use Rattle.zh_decided.proofs.TrailLemmas.{last_potential, last_step, source-of}

-- a cycle that was made from the steps of a trail from `first` on
pub record IsCircleFrom (trail : Trail) (first : ℕ) (cycle : Cycle) : Type 0 where
  pub length : cycle.length ≡ trail.length - first
  pub giver : (k : ℕ) → k < cycle.length → (step_at cycle.steps k).giver ≡ (step_at trail.steps (first + k)).giver
  pub column : (k : ℕ) → k < cycle.length → (step_at cycle.steps k).column ≡ (step_at trail.steps (first + k)).column
  pub taker : (k : ℕ) → 1 ≤ k → k < cycle.length → (step_at cycle.steps k).taker ≡ (step_at trail.steps (first + k)).taker
  pub closed : (step_at cycle.steps 0).taker ≡ (step_at trail.steps (trail.length - 1)).giver

-- a sum with its first term split off
pub sum_to-first : (n : ℕ) (f : ℕ → ℕ) → sum_to (suc n) f ≡ f 0 + sum_to n (λ k. f (k + 1))
sum_to-first zero f = omega arith
sum_to-first (suc n) f =
    let before : sum_to (suc n) f ≡ f 0 + sum_to n (λ k. f (k + 1)) = sum_to-first n f in
    let here : f (n + 1) ≡ f (suc n) = ap f (add-one n) in
    omega (arith, before, here)

-- the taker of each step after the first is the giver of the step before
taker-after : (m : Priced) (bounds : Bounds) (lower : List Mark) (trail : Trail) (first : ℕ) (cycle : Cycle) →
    IsTrail m bounds lower trail →
    IsCircleFrom trail first cycle → (k : ℕ) → k + 1 < cycle.length →
    (step_at cycle.steps (k + 1)).taker ≡ (step_at trail.steps (first + k)).giver
taker-after m bounds lower trail first cycle T C k lt =
    let at : first + (k + 1) ≡ first + k + 1 = omega arith in
    C.taker (k + 1) (omega arith) lt ∙ ap (λ i. (step_at trail.steps i).taker) at ∙ T.joined (first + k) (omega (arith, C.length))

votes-after : (m : Priced) (bounds : Bounds) (lower : List Mark) (trail : Trail) (first : ℕ) (cycle : Cycle) →
    IsTrail m bounds lower trail →
    IsCircleFrom trail first cycle → (k : ℕ) → k + 1 < cycle.length →
    0 < m.cells.votes (step_at cycle.steps (k + 1)).taker (step_at cycle.steps (k + 1)).column
votes-after m bounds lower trail first cycle T C k lt =
    let at : first + (k + 1) ≡ first + k + 1 = omega arith in
    rw (taker-after m bounds lower trail first cycle T C k lt, C.column (k + 1) lt, at) (T.votes (first + k) (omega (arith, C.length)))

circle-of : (m : Priced) (bounds : Bounds) (lower : List Mark) (trail : Trail) (f first : ℕ) (cycle : Cycle) →
    IsTrail m bounds lower trail →
    trail.source ≡ Some f → first < trail.length → (step_at trail.steps first).column ≡ f → IsCircleFrom trail first cycle →
    IsCircle m.cells cycle
circle-of m bounds lower trail f first cycle T from within there C =
    let S : MakesRow m bounds lower (last_step trail).giver (last_potential m bounds lower trail T) f = source-of m bounds lower trail f
    T from in
    let from_first : first + 0 ≡ first = omega arith in
    let start : (step_at cycle.steps 0).column ≡ f = C.column 0 (omega (arith, C.length))
    ∙ ap (λ i. (step_at trail.steps i).column) from_first ∙ there in
    record {
      some = omega (arith, C.length);
      few = omega (arith, C.length, T.few);
      can_pass = λ k lt. record {
        giver = rw (C.giver k lt) (T.giver (first + k) (omega (arith, C.length)));
        taker = elim (cases_eq k 0) [
          | inl is ↦ rw (is, C.closed) (T.giver (trail.length - 1) (omega arith))
          | inr not ↦
              let at : k ≡ k - 1 + 1 = omega arith in
              rw at (rw (taker-after m bounds lower trail first cycle T C (k - 1) (omega arith))
              (T.giver (first + (k - 1)) (omega (arith, C.length))))
        ];
        column = rw (C.column k lt) (T.column (first + k) (omega (arith, C.length)));
        seat = rw (C.giver k lt, C.column k lt) (T.seat (first + k) (omega (arith, C.length)));
        votes = elim (cases_eq k 0) [
          | inl is ↦ rw (is, C.closed, start) S.votes
          | inr not ↦
              let at : k ≡ k - 1 + 1 = omega arith in
              rw at (votes-after m bounds lower trail first cycle T C (k - 1) (omega arith))
        ];
      };
      differ = λ j k jk lt. rw (C.column j (omega arith), C.column k lt) (T.differ (first + j) (first + k) (omega arith) (omega (
        arith,
        C.length,
      )));
      joined = λ k lt. taker-after m bounds lower trail first cycle T C k lt ∙ sym (C.giver k (omega arith));
      closed =
          let at : first + (cycle.length - 1) ≡ trail.length - 1 = omega (arith, C.length) in
          C.closed ∙ sym (C.giver (cycle.length - 1) (omega (arith, C.length)) ∙ ap (λ i. (step_at trail.steps i).giver) at);
    }

pub one_level_more : (p s : ℕ) → suc p * s ≡ p * s + s
one_level_more p s = rw (← add-one) (omega arith)

-- the seats that the cycle adds cost less than those that it removes plus the slacks
pub cycle-of : (m : Priced) (bounds : Bounds) (lower : List Mark) (trail : Trail) (f first : ℕ) (cycle : Cycle) →
    IsTrail m bounds lower trail →
    trail.source ≡ Some f → first < trail.length → (step_at trail.steps first).column ≡ f → IsCircleFrom trail first cycle →
    IsCycle m (bounds.given + bounds.taken) cycle
cycle-of m bounds lower trail f first cycle T from within there C =
    let S : MakesRow m bounds lower (last_step trail).giver (last_potential m bounds lower trail T) f = source-of m bounds lower trail f
    T from in
    let p : ℕ = cycle.length - 1 in
    let s : ℕ = bounds.given + bounds.taken in
    let long : cycle.length ≡ suc p = omega (arith, C.length) in
    let value : ℕ → ℕ = λ k. T.value (first + k) in
    let last : ℕ → ℕ = λ k. m.last (step_at trail.steps (first + k)).giver (step_at trail.steps (first + k)).column in
    let next : ℕ → ℕ = λ k. m.next (step_at trail.steps (first + k)).giver (step_at trail.steps (first + (k + 1))).column in
    let chain : value 0 + sum_to p last + p * s ≡ value p + sum_to p next
    = along p s value last next (λ k lt.
    let at : first + (k + 1) ≡ first + k + 1 = omega arith in
    rw at (T.along (first + k) (omega (arith, C.length)))) in
    let lasts : last_prices m cycle ≡ sum_to p last + last p
    = ap (λ n. sum_to n (λ k. m.last (step_at cycle.steps k).giver (step_at cycle.steps k).column)) long
    ∙ sum_to-ext (suc p) (λ k. m.last (step_at cycle.steps k).giver (step_at cycle.steps k).column) last (λ k lt.
    rw (C.giver k (omega arith), C.column k (omega arith)) refl) in
    let from_first : first + 0 ≡ first = omega arith in
    let to_last : first + p ≡ trail.length - 1 = omega (arith, C.length) in
    let start : (step_at cycle.steps 0).column ≡ f = C.column 0 (omega (arith, C.length))
    ∙ ap (λ i. (step_at trail.steps i).column) from_first ∙ there in
    let begun : value 0 < potential_at lower f
    = rw (from_first, ← there) (T.below first within) in
    let first_next : m.next (step_at cycle.steps 0).taker (step_at cycle.steps 0).column ≡ m.next (last_step trail).giver f
    = rw (C.closed, start) refl in
    let other_nexts : sum_to p (λ k. m.next (step_at cycle.steps (k + 1)).taker (step_at cycle.steps (k + 1)).column) ≡ sum_to p next
    = sum_to-ext p _ next (λ k lt.
    rw (taker-after m bounds lower trail first cycle T C k (omega (arith, C.length)), C.column (k + 1) (omega (arith, C.length))) refl) in
    let nexts : next_prices m cycle ≡ m.next (last_step trail).giver f + sum_to p next
    = ap (λ n. sum_to n (λ k. m.next (step_at cycle.steps k).taker (step_at cycle.steps k).column)) long
    ∙ sum_to-first p (λ k. m.next (step_at cycle.steps k).taker (step_at cycle.steps k).column)
    ∙ ap (λ n. n + sum_to p (λ k. m.next (step_at cycle.steps (k + 1)).taker (step_at cycle.steps (k + 1)).column)) first_next
    ∙ ap (λ n. m.next (last_step trail).giver f + n) other_nexts in
    let last_value : value p ≡ T.value (trail.length - 1) = ap T.value to_last in
    let last_last : last p ≡ m.last (last_step trail).giver (last_step trail).column
    = ap (λ i. m.last (step_at trail.steps i).giver (step_at trail.steps i).column) to_last in
    let slacks : cycle.length * s ≡ p * s + s = ap (λ n. n * s) long ∙ one_level_more p s in
    record {
      circle = circle-of m bounds lower trail f first cycle T from within there C;
      cheaper = omega (arith, chain, lasts, nexts, begun, last_value, last_last, slacks, S.made);
    }

-- sums over the takers and over the givers of a circle are equal
pub around : (k : Cells) (cycle : Cycle) → IsCircle k cycle → (f : ℕ → ℕ) →
    sum_to cycle.length (λ j. f (step_at cycle.steps j).taker) ≡ sum_to cycle.length (λ j. f (step_at cycle.steps j).giver)
around k cycle C f =
    let p : ℕ = cycle.length - 1 in
    let long : cycle.length ≡ suc p = omega (arith, C.some) in
    let takers : ℕ → ℕ = λ j. f (step_at cycle.steps j).taker in
    let givers : ℕ → ℕ = λ j. f (step_at cycle.steps j).giver in
    let first : takers 0 ≡ givers p = ap f C.closed in
    let rest : sum_to p (λ j. takers (j + 1)) ≡ sum_to p givers
    = sum_to-ext p (λ j. takers (j + 1)) givers (λ j lt. ap f (C.joined j (omega arith))) in
    let all_takers : sum_to cycle.length takers ≡ takers 0 + sum_to p (λ j. takers (j + 1))
    = ap (λ n. sum_to n takers) long ∙ sum_to-first p takers in
    let all_givers : sum_to cycle.length givers ≡ sum_to p givers + givers p = ap (λ n. sum_to n givers) long in
    omega (arith, first, rest, all_takers, all_givers)

-- the sum of n inequalities f + g + s ≤ h + k
sum_to-three : (n s : ℕ) (f g h k : ℕ → ℕ) → ((j : ℕ) → j < n → f j + g j + s ≤ h j + k j) →
    sum_to n f + sum_to n g + n * s ≤ sum_to n h + sum_to n k
sum_to-three zero s f g h k each = omega arith
sum_to-three (suc n) s f g h k each =
    omega (arith, sum_to-three n s f g h k (λ j lt. each j (omega arith)), each n (omega arith), one_level_more n s)

-- with fair potentials there is no cycle
pub no_cycle : (m : Priced) (bounds : Bounds) (cycle : Cycle) (x y : ℕ → ℕ) → AreFair m bounds 0 0 x y →
    IsCycle m (bounds.given + bounds.taken) cycle → ⊥
no_cycle m bounds cycle x y fair C =
    let each : (j : ℕ) → j < cycle.length →
    x (step_at cycle.steps j).taker + m.last (step_at cycle.steps j).giver (step_at cycle.steps j).column + (bounds.given + bounds.taken)
    ≤ m.next (step_at cycle.steps j).taker (step_at cycle.steps j).column + x (step_at cycle.steps j).giver
    = λ j lt.
    let can : CanPass m.cells (step_at cycle.steps j) = C.circle.can_pass j lt in
    omega (
      arith,
      fair.given (step_at cycle.steps j).taker (step_at cycle.steps j).column can.taker can.column can.votes,
      fair.taken (step_at cycle.steps j).giver (step_at cycle.steps j).column can.giver can.column can.seat,
    ) in
    omega (
      arith,
      C.cheaper,
      around m.cells cycle C.circle x,
      sum_to-three cycle.length (bounds.given + bounds.taken) (λ j. x (step_at cycle.steps j).taker)
          (λ j. m.last (step_at cycle.steps j).giver (step_at cycle.steps j).column) (λ j. m.next (step_at cycle.steps j).taker (step_at
          cycle.steps j).column)
          (λ j. x (step_at cycle.steps j).giver) each,
    )

-- fairness depends only on the slacks of the bounds
pub same-slacks : (m : Priced) (bounds others : Bounds) (a b : ℕ) (x y : ℕ → ℕ) → bounds.given ≡ others.given →
    bounds.taken ≡ others.taken →
    AreFair m bounds a b x y → AreFair m others a b x y
same-slacks m bounds others a b x y given taken fair = record {
  given = λ d g dm gn votes. omega (arith, fair.given d g dm gn votes);
  taken = λ d g dm gn seat. omega (arith, fair.taken d g dm gn seat);
}

-- a cycle at one slack is a cycle at each larger slack
pub cycle-more : (m : Priced) (slack more : ℕ) (cycle : Cycle) → slack ≤ more → IsCycle m slack cycle → IsCycle m more cycle
cycle-more m slack more cycle le C = record {
  circle = C.circle;
  cheaper = omega (arith, C.cheaper, mul-le-mul_left cycle.length le);
}
