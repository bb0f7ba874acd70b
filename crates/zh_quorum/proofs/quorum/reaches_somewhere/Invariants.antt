use Rattle.std.proofs.Common.{ℕ, ◌+◌, ◌<◌}
use Rattle.zh_quorum.specs.Quorum.{ReachesQuorum}
use Rattle.zh_quorum.proofs.quorum.reaches_somewhere.Given as goal

abbrev pub invariant-loop-place : goal.invariant-loop-place
invariant-loop-place l = (i : ℕ) → i < l.place → ¬ ReachesQuorum l.totals (i + 1) l.group
