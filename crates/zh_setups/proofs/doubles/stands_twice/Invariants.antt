use Rattle.std.proofs.Common.{◌≡◌, map, drop}
use Rattle.std.specs.List.{list_any}
use Rattle.toml.specs.View.{view}
use Rattle.zh_setups.specs.Document.{same_number, repeats, stands_in}
use Rattle.zh_setups.proofs.doubles.stands_twice.Given as goal

abbrev pub invariant-loop-group : goal.invariant-loop-group
invariant-loop-group l =
    list_any (λ g. repeats same_number (stands_in g)) (map view (drop l.group-index l.groups)) ≡ list_any (λ g. repeats same_number (stands_in g)) (map view l.groups)
