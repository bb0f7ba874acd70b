use Rattle.std.proofs.Common.{◌≡◌, ℕ, ◌+◌, ◌<◌, length}
use Rattle.zh_decided.specs.Sweeps.{step_at}
use Rattle.zh_decided.proofs.cycles.Trail.circle_from.Given as goal

abbrev pub invariant-loop-place : goal.invariant-loop-place
invariant-loop-place l = record {
  long : length l.steps ≡ 33;
  copied : (k : ℕ) → l.first + k < l.place → step_at l.steps k ≡ step_at l.self.steps (l.first + k);
}
