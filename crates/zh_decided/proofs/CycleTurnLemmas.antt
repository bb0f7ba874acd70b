-- A cycle that is cancelled, step by step.
use Rattle.std.proofs.Common.{◌≡◌, ◌≢◌, ℕ, ◌+◌, ◌-◌, ◌*◌, ◌<◌, ◌≤◌, List, length, slice_index, inl, inr, refl, sym, ap, ◌∙◌, arith}
use Rattle.std.proofs.lemmas.Bool.{cases_eq}
use Rattle.zh_divisors.specs.Sums.{sum_to}
use Rattle.zh_divisors.proofs.CallerLemmas.{sum_to-suc}
use Rattle.zh_matrices.proofs.CallerLemmas.{few-in-cell}
use Rattle.zh_matrices.specs.Fitting.{AreOnVotes, FitsVotes}
use Rattle.zh_matrices.specs.Question.{AreSeatTotals, Question, cell}
use Rattle.zh_decided.specs.Prices.{AreLogs, Logs, cells, cost, priced, seat_price}
use Rattle.zh_decided.specs.Sweeps.{IsCircle, step_at}
use Rattle.zh_decided.specs.Turns.{IsTurned, PassesOn, one_at}
use Rattle.zh_decided.specs.declared.cycles.Cycle.{Cycle}
use Rattle.zh_decided.specs.declared.cycles.Transfer.{Transfer}
use Rattle.zh_decided.proofs.CircleLemmas.{around}
use Rattle.zh_decided.proofs.PassLemmas.{column-passed, cost-passed, one-else, row-passed}

-- along a circle, a row gives as many seats as it takes
balanced : (q : Question) (seats : List ℕ) (cycle : Cycle) → IsCircle (cells q seats) cycle → (d : ℕ) →
    sum_to cycle.length (λ j. one_at (step_at cycle.steps j).taker d) ≡ sum_to cycle.length (λ j. one_at (step_at cycle.steps j).giver d)
balanced q seats cycle C d = around (cells q seats) cycle C (λ a. one_at a d)

-- the matrix after k steps of a cycle
pub record AreTurned (q : Question) (cycle : Cycle) (k : ℕ) (before seats : List ℕ) : Type 0 where
  pub one_each : length seats ≡ q.rows * q.columns
  pub untouched : (j d : ℕ) → k ≤ j → j < cycle.length → d < q.rows →
      cell q.columns seats d (step_at cycle.steps j).column ≡ cell q.columns before d (step_at cycle.steps j).column
  pub touched : (j d : ℕ) → j < k → d < q.rows →
      cell q.columns seats d (step_at cycle.steps j).column + one_at (step_at cycle.steps j).giver d
      ≡ cell q.columns before d (step_at cycle.steps j).column + one_at (step_at cycle.steps j).taker d
  pub others : (d g : ℕ) → d < q.rows → g < q.columns → ((j : ℕ) → j < cycle.length → g ≢ (step_at cycle.steps j).column) →
      cell q.columns seats d g ≡ cell q.columns before d g
  pub columns : (g : ℕ) → g < q.columns → sum_to q.rows (λ d. cell q.columns seats d g) ≡ sum_to q.rows (λ d. cell q.columns before d g)
  pub rows : (d : ℕ) → d < q.rows →
      sum_to q.columns (cell q.columns seats d) + sum_to k (λ j. one_at (step_at cycle.steps j).giver d)
      ≡ sum_to q.columns (cell q.columns before d) + sum_to k (λ j. one_at (step_at cycle.steps j).taker d)
  pub on_votes : AreOnVotes q seats
  pub costs : (l : Logs) → AreLogs l →
      cost q l seats + sum_to k (λ j. (priced q l before).last (step_at cycle.steps j).giver (step_at cycle.steps j).column)
      ≤ cost q l before + sum_to k (λ j. (priced q l before).next (step_at cycle.steps j).taker (step_at cycle.steps j).column)

pub AreTurned-start : (q : Question) (cycle : Cycle) (before : List ℕ) → FitsVotes q before → AreTurned q cycle 0 before before
AreTurned-start q cycle before F = record {
  one_each = F.one_each;
  untouched = λ j d kj jn dm. refl;
  touched = λ j d jk dm. absurd (omega arith);
  others = λ d g dm gn away. refl;
  columns = λ g gn. refl;
  rows = λ d dm. refl;
  on_votes = F.on_votes;
  costs = λ l logs. omega arith;
}

-- the prices of a cell do not fall
rising : (l : Logs) (k v : ℕ) → AreLogs l → 0 < v → v ≤ 400 → seat_price l k (v - 1) ≤ seat_price l k v
rising l k v logs some few =
    let at : v - 1 + 1 ≡ v = omega arith in
    let up : slice_index l.of_odds (v - 1) ≤ slice_index l.of_odds v = rw at at (logs.rising (v - 1) (omega (arith, logs.enough))) in
    omega (arith, up)

on_votes-more : (q : Question) (s t : List ℕ) (step : Transfer) → AreOnVotes q s → 0 < cell q.columns q.votes step.taker step.column →
    PassesOn q s t step →
    AreOnVotes q t
on_votes-more q s t step on votes P d g dm gn none = elim (cases_eq g step.column) [
  | inr other ↦ P.others d g dm gn other ∙ on d g dm gn none
  | inl is ↦
      let there : cell q.columns q.votes d step.column ≡ 0 = rw is at none in
      let was : cell q.columns s d step.column ≡ 0 = on d step.column dm (rw (← is) gn) there in
      let differ : d ≢ step.taker = λ same. let here : cell q.columns q.votes step.taker step.column
      ≡ 0 = rw same at there in omega arith in
      rw is (omega (arith, P.column d dm, was, one-else step.taker d differ))
]

pub AreTurned-more : (q : Question) (cycle : Cycle) (k : ℕ) (before s t : List ℕ) → AreSeatTotals q.rows q.row_totals → FitsVotes q before →
    IsCircle (cells q before) cycle → k < cycle.length → AreTurned q cycle k before s → PassesOn q s t (step_at cycle.steps k) →
    AreTurned q cycle (k + 1) before t
AreTurned-more q cycle k before s t totals F C kn T P =
    let step : Transfer = step_at cycle.steps k in
    let giver : step.giver < q.rows = (C.can_pass k kn).giver in
    let taker : step.taker < q.rows = (C.can_pass k kn).taker in
    let column : step.column < q.columns = (C.can_pass k kn).column in
    let at_giver : cell q.columns s step.giver step.column ≡ cell q.columns before step.giver step.column
    = T.untouched k step.giver (omega arith) kn giver in
    let at_taker : cell q.columns s step.taker step.column ≡ cell q.columns before step.taker step.column
    = T.untouched k step.taker (omega arith) kn taker in
    let some : 0 < cell q.columns s step.giver step.column = rw at_giver (C.can_pass k kn).seat in
    record {
      one_each = P.one_each ∙ T.one_each;
      untouched = λ j d kj jn dm.
          P.others d (step_at cycle.steps j).column dm (C.can_pass j jn).column (λ same. C.differ k j (omega arith) jn (sym same))
          ∙ T.untouched j d (omega arith) jn dm;
      touched = λ j d jk dm. elim (cases_eq j k) [
        | inl is ↦ rw is (omega (arith, P.column d dm, T.untouched k d (omega arith) kn dm))
        | inr other ↦
            omega (
              arith,
              T.touched j d (omega arith) dm,
              P.others d (step_at cycle.steps j).column dm (C.can_pass j (omega arith)).column (C.differ j k (omega arith) kn),
            )
      ];
      others = λ d g dm gn away. P.others d g dm gn (away k kn) ∙ T.others d g dm gn away;
      columns = λ g gn. column-passed q s t step giver taker P g gn ∙ T.columns g gn;
      rows = λ d dm. omega (
        arith,
        row-passed q s t step column P d dm,
        T.rows d dm,
        sum_to-suc k (λ j. one_at (step_at cycle.steps j).giver d),
        sum_to-suc k (λ j. one_at (step_at cycle.steps j).taker d),
      );
      on_votes = on_votes-more q s t step T.on_votes (C.can_pass k kn).votes P;
      costs = λ l logs.
          let few : cell q.columns s step.giver step.column ≤ 400
          = rw at_giver (few-in-cell q before totals F.rows_add_up step.giver step.column giver column) in
          let last : (priced q l s).last step.giver step.column ≡ (priced q l before).last step.giver step.column
          = ap (λ v. seat_price l (step.giver * q.columns + step.column) (v - 1)) at_giver in
          let next : (priced q l s).next step.taker step.column ≡ (priced q l before).next step.taker step.column
          = ap (λ v. seat_price l (step.taker * q.columns + step.column) v) at_taker in
          omega (
            arith,
            cost-passed q l s t step giver taker column some
                (rising l (step.giver * q.columns + step.column) (cell q.columns s step.giver step.column) logs some few) P,
            T.costs l logs,
            last,
            next,
            sum_to-suc k (λ j. (priced q l before).last (step_at cycle.steps j).giver (step_at cycle.steps j).column),
            sum_to-suc k (λ j. (priced q l before).next (step_at cycle.steps j).taker (step_at cycle.steps j).column),
          );
    }

pub fits-turned : (q : Question) (cycle : Cycle) (before seats : List ℕ) → FitsVotes q before → IsCircle (cells q before) cycle →
    AreTurned q cycle cycle.length before seats → FitsVotes q seats
fits-turned q cycle before seats F C T = record {
  one_each = T.one_each;
  rows_add_up = λ d dm. omega (arith, T.rows d dm, balanced q before cycle C d, F.rows_add_up d dm);
  columns_add_up = λ g gn. T.columns g gn ∙ F.columns_add_up g gn;
  on_votes = T.on_votes;
}

pub turned : (q : Question) (cycle : Cycle) (before seats : List ℕ) → AreTurned q cycle cycle.length before seats →
    IsTurned q cycle before seats
turned q cycle before seats T = record { columns = λ k d kn dm. T.touched k d kn dm; others = T.others }
