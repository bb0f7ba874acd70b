use Rattle.std.proofs.Common.{◌≡◌, map, drop}
use Rattle.std.specs.List.{list_all}
use Rattle.toml.specs.View.{view}
use Rattle.zh_setups.specs.Keys.{has_keys}
use Rattle.zh_setups.proofs.keys.each_has_keys.Given as goal

abbrev pub invariant-loop-value : goal.invariant-loop-value
invariant-loop-value l =
    list_all (has_keys (map (λ k. k.now) l.keys)) (map view (drop l.value-index l.values)) ≡ list_all (has_keys (map (λ k. k.now) l.keys)) (map view l.values)
