use Rattle.std.proofs.Common.{◌≡◌, map, drop}
use Rattle.std.specs.List.{list_any}
use Rattle.toml.specs.View.{view}
use Rattle.zh_setups.specs.Document.{same_name}
use Rattle.zh_setups.proofs.place.has_namesake.Given as goal

abbrev pub invariant-loop-other : goal.invariant-loop-other
invariant-loop-other l =
    list_any (same_name (view l.value)) (map view (drop l.other-index l.others)) ≡ list_any (same_name (view l.value)) (map view l.others)
