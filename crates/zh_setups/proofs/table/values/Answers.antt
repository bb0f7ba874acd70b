use Rattle.std.proofs.Common.{◌≢◌, ◌≤◌, length, sym, arith}
use Rattle.std.specs.Vec.{vec_len}
use Rattle.std.proofs.lemmas.Bool.{eqb-false}
use Rattle.toml.specs.View.{view}
use Rattle.zh_setups.proofs.ArrayLemmas.{values_of-found}
use Rattle.zh_setups.proofs.table.values.Goals as goal

pub returns-else-is_empty : goal.returns-else-is_empty
returns-else-is_empty c =
    let some : vec_len c.in_ok-values.values.now ≢ 0 = eqb-false _ 0 (sym c.if-is_empty.ensures) in
    let items = c.in_ok-values.values.now.items in
    let long : 1 ≤ length items = omega (arith, c.in_ok-values.values.now.ok.0) in
    rw c.deref.ensures.value (values_of-found (view c.args.value.now) items c.in_ok-values.ensures long)
