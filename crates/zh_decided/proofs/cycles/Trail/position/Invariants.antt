use Rattle.std.proofs.Common.{◌≢◌, ℕ, ◌<◌}
use Rattle.zh_decided.specs.Sweeps.{step_at}
use Rattle.zh_decided.proofs.cycles.Trail.position.Given as goal

abbrev pub invariant-loop-place : goal.invariant-loop-place
invariant-loop-place l = (k : ℕ) → k < l.place → (step_at l.self.steps k).column ≢ l.column
