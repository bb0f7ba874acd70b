use Rattle.std.proofs.Common.{◌≡◌, map, drop}
use Rattle.toml.specs.View.{view}
use Rattle.zh_setups.specs.Document.{each}
use Rattle.zh_setups.proofs.EachLemmas.{joined}
use Rattle.zh_setups.proofs.document.read_each.Given as goal

abbrev pub invariant-loop-value : goal.invariant-loop-value
invariant-loop-value g l = joined (map g.P.Part.meaning l.parts.items)
    (each (g.P.Part.said l.constituencies) (map view (drop l.value-index l.values))) ≡ each (g.P.Part.said l.constituencies)
    (map view l.values)
