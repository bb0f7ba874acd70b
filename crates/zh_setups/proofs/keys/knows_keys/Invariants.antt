use Rattle.std.proofs.Common.{◌≡◌, map}
use Rattle.toml.specs.View.{members_view, table_view}
use Rattle.zh_setups.specs.Keys.{knows_keys}
use Rattle.zh_setups.proofs.keys.knows_keys.Given as goal

abbrev pub invariant-loop-key : goal.invariant-loop-key
invariant-loop-key l =
    knows_keys (map (λ k. k.now) l.keys) (members_view l.key-iterator) ≡ knows_keys (map (λ k. k.now) l.keys) (table_view l.table)
