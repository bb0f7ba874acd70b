use Rattle.std.proofs.Common.{◌≡◌, ℕ, ◌/◌, ◌<◌, max, get_or}
use Rattle.zh_lower.proofs.divisors.scale_down.Given as goal

abbrev pub invariant-loop-column : goal.invariant-loop-column
invariant-loop-column l = (g : ℕ) → g < l.column → get_or l.into g 0 ≡ max 1 (get_or l.of_columns g 0 / l.scale)
