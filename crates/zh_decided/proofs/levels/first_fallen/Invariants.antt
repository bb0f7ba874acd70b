use Rattle.std.proofs.Common.{◌≡◌, ℕ, ◌<◌, None}
use Rattle.zh_decided.specs.Levels.{mark_at}
use Rattle.zh_decided.proofs.levels.first_fallen.Given as goal

abbrev pub invariant-loop-column : goal.invariant-loop-column
invariant-loop-column l = (g : ℕ) → g < l.column → (mark_at l.columns g).maker ≡ None
