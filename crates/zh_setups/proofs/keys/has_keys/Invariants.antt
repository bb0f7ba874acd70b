use Rattle.std.proofs.Common.{◌≡◌, map, drop}
use Rattle.toml.specs.View.{view}
use Rattle.zh_setups.specs.Keys.{has_keys}
use Rattle.zh_setups.proofs.keys.has_keys.Given as goal

abbrev pub invariant-loop-key : goal.invariant-loop-key
invariant-loop-key l =
    has_keys (map (λ k. k.now) (drop l.key-index l.keys)) (view l.value) ≡ has_keys (map (λ k. k.now) l.keys) (view l.value)
