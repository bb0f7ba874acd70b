use Rattle.std.proofs.Common.{◌≡◌, map, drop}
use Rattle.toml.specs.View.{view}
use Rattle.zh_setups.specs.Document.{each, number_within}
use Rattle.zh_setups.proofs.EachLemmas.{joined}
use Rattle.zh_setups.proofs.document.read_numbers.Given as goal

abbrev pub invariant-loop-value : goal.invariant-loop-value
invariant-loop-value l = joined l.numbers.items (each (number_within 1 l.constituencies) (map view (drop l.value-index l.values))) ≡ each (number_within 1 l.constituencies) (map view l.values)
