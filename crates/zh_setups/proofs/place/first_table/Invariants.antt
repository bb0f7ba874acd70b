use Rattle.std.proofs.Common.{◌≡◌, ◌+◌, map, drop}
use Rattle.toml.specs.View.{view}
use Rattle.zh_setups.specs.Places.{first_failing, first_table, table_checks}
use Rattle.zh_setups.proofs.place.first_table.Given as goal

abbrev pub invariant-loop-place : goal.invariant-loop-place
invariant-loop-place l =
    first_table (λ value. first_failing (table_checks l.fault l.kind l.constituencies value)) l.kind (l.place + 1)
    (map view (drop l.place l.values)) ≡ first_table (λ value. first_failing (table_checks l.fault l.kind l.constituencies value))
    l.kind 1 (map view l.values)
