use Rattle.std.proofs.Common.{map, ap, ◌∙◌}
use Rattle.std.specs.List.{list_all}
use Rattle.toml.specs.View.{view}
use Rattle.zh_setups.specs.Keys.{is_table}
use Rattle.zh_setups.proofs.ArrayLemmas.{tables_of-found, tables_of-mixed}
use Rattle.zh_setups.proofs.table.tables.Goals as goal

pub returns-then-are_tables : goal.returns-then-are_tables
returns-then-are_tables c =
    let tested = c.are_tables.ensures ∙ ap (λ vs. list_all is_table (map view vs)) c.deref.ensures.value in
    rw c.deref-then-are_tables.ensures.value (tables_of-found (view c.args.value.now) c.in-Some.values.now.items c.are_tables.result c.in-Some.ensures tested c.if-are_tables.true)

pub returns-else-are_tables : goal.returns-else-are_tables
returns-else-are_tables c =
    let tested = c.are_tables.ensures ∙ ap (λ vs. list_all is_table (map view vs)) c.deref.ensures.value in
    tables_of-mixed (view c.args.value.now) c.in-Some.values.now.items c.are_tables.result c.in-Some.ensures tested c.if-are_tables.false
