use Rattle.std.proofs.Common.{◌≡◌, map, drop}
use Rattle.toml.specs.View.{view}
use Rattle.zh_setups.specs.Places.{are_within}
use Rattle.zh_setups.proofs.checks.are_within.Given as goal

abbrev pub invariant-loop-value : goal.invariant-loop-value
invariant-loop-value l = are_within l.constituencies (map view (drop l.value-index l.values)) ≡ are_within l.constituencies (map view l.values)
