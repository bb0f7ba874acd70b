-- Seats that move along a cycle, and what follows from that.
use Rattle.std.specs.Prelude.{◌≡◌, ◌≢◌, ℕ, ◌+◌, ◌*◌, ◌<◌, ◌≤◌, nat_eq, if◌then◌else◌, List, length}
use Rattle.zh_matrices.specs.Fitting.{FitsVotes}
use Rattle.zh_matrices.specs.Question.{Question, cell}
use Rattle.zh_decided.specs.Prices.{AreLogs, Logs, cost, priced}
use Rattle.zh_decided.specs.Sweeps.{AreFair, IsCycle, step_at}
use Rattle.zh_decided.specs.declared.sweep_bounds.Bounds.{Bounds}
use Rattle.zh_decided.specs.declared.cycles.Cycle.{Cycle}
use Rattle.zh_decided.specs.declared.cycles.Transfer.{Transfer}

-- 1 if d is the row a, and 0 otherwise
abbrev pub one_at : ℕ → ℕ → ℕ
one_at a d = if nat_eq d a then 1 else 0

-- in the column of the step the giver has one seat fewer and the taker one more (they may be the same row); no other column
-- changes
pub record PassesOn (q : Question) (before after : List ℕ) (step : Transfer) : Type 0 where
  pub one_each : length after ≡ length before
  pub column : (d : ℕ) → d < q.rows →
      cell q.columns after d step.column + one_at step.giver d ≡ cell q.columns before d step.column + one_at step.taker d
  pub others : (d g : ℕ) → d < q.rows → g < q.columns → g ≢ step.column → cell q.columns after d g ≡ cell q.columns before d g

-- a seat has moved along each step of a cycle, and no other cell has changed
pub record IsTurned (q : Question) (cycle : Cycle) (before after : List ℕ) : Type 0 where
  pub columns : (k d : ℕ) → k < cycle.length → d < q.rows →
      cell q.columns after d (step_at cycle.steps k).column + one_at (step_at cycle.steps k).giver d
      ≡ cell q.columns before d (step_at cycle.steps k).column + one_at (step_at cycle.steps k).taker d
  pub others : (d g : ℕ) → d < q.rows → g < q.columns → ((k : ℕ) → k < cycle.length → g ≢ (step_at cycle.steps k).column) →
      cell q.columns after d g ≡ cell q.columns before d g

-- potentials that are fair before a cycle is cancelled are fair afterwards up to `spent`: the two slacks, and for each step the
-- amount by which the slack of the cycle is larger than they are
abbrev pub KeepsNearlyFair : Question → Cycle → List ℕ → List ℕ → Type 0
KeepsNearlyFair q cycle before after = (l : Logs) (bounds : Bounds) (more : ℕ) (x y : ℕ → ℕ) → AreLogs l →
    IsCycle (priced q l before) (bounds.given + bounds.taken + more) cycle → AreFair (priced q l before) bounds 0 0 x y →
    let spent : ℕ = bounds.given + bounds.taken + cycle.length * more in AreFair (priced q l after) bounds spent spent x y

-- if in each cell with seats the next seat costs at least the last one plus the slack, the cycle makes a different matrix
abbrev pub MakesAnother : Question → Cycle → List ℕ → List ℕ → Type 0
MakesAnother q cycle before after = (l : Logs) (slack : ℕ) → IsCycle (priced q l before) slack cycle →
    ((d g : ℕ) → d < q.rows → g < q.columns → 0 < cell q.columns before d g →
    (priced q l before).last d g + slack ≤ (priced q l before).next d g) →
    (d : ℕ) × (g : ℕ) × (d < q.rows) × (g < q.columns) × (cell q.columns before d g ≢ cell q.columns after d g)

-- no matrix on these votes with these totals costs less
abbrev pub IsCheapest : Question → Logs → List ℕ → Type 0
IsCheapest q l seats = (others : List ℕ) → FitsVotes q others → cost q l seats ≤ cost q l others
