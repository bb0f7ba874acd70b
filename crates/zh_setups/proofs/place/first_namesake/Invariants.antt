use Rattle.std.proofs.Common.{◌≡◌, ◌+◌, [], map, drop, take}
use Rattle.toml.specs.View.{view}
use Rattle.zh_setups.specs.Places.{first_namesake}
use Rattle.zh_setups.proofs.place.first_namesake.Given as goal

abbrev pub invariant-loop-place : goal.invariant-loop-place
invariant-loop-place l =
    first_namesake l.kind (l.place + 1) (map view (take l.place l.values)) (map view (drop l.place l.values)) ≡ first_namesake l.kind 1 [] (map view l.values)
