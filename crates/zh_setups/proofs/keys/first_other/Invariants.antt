use Rattle.std.proofs.Common.{◌≡◌, map}
use Rattle.toml.specs.View.{members_view, table_view}
use Rattle.zh_setups.specs.Keys.{first_other}
use Rattle.zh_setups.proofs.keys.first_other.Given as goal

abbrev pub invariant-loop-name : goal.invariant-loop-name
invariant-loop-name l =
    first_other (map (λ k. k.now) l.keys) (members_view l.name-iterator) ≡ first_other (map (λ k. k.now) l.keys) (table_view l.table)
