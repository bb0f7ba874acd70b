use Rattle.std.proofs.Common.{◌≡◌, ℕ, ◌<◌, length, get_or}
use Rattle.zh_decided.specs.Levels.{potential_at}
use Rattle.zh_decided.proofs.levels.potentials.Given as goal

abbrev pub invariant-loop-line : goal.invariant-loop-line
invariant-loop-line l = record {
  long : length l.potentials ≡ 32;
  each : (i : ℕ) → i < l.line → get_or l.potentials i 0 ≡ potential_at l.marks i;
}
