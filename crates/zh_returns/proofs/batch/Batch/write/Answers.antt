use Rattle.std.proofs.Common.{◌++◌, sym, ap, ◌∙◌, subst, List, arith}
use Rattle.std.proofs.lemmas.Grind.{common_steps}
use Rattle.zh_returns.specs.declared.row.Row.{Row}
use Rattle.zh_returns.specs.Rows.{AreRows}
use Rattle.zh_returns.proofs.BatchRowLemmas.{fresh_next}
use Rattle.zh_returns.proofs.batch.Batch.write.Goals as goal

pub push-requires-clause-new : goal.push-requires-clause-new
push-requires-clause-new c =
    let rows = ap (λ (rest : List Row). c.loop-row.writer.rows ++ rest) (sym c.in-Some.ensures.steps) ∙ c.loop-row.invariant.rows in
    fresh_next c.loop-row.writer.rows _ c.in-Some.row.now (subst AreRows (sym rows) c.loop-row.invariant.limits)

pub loop-row-preserved : goal.loop-row-preserved
loop-row-preserved c = grind (arith, common_steps)

pub push-requires-clause-few : goal.push-requires-clause-few
push-requires-clause-few c = grind (arith, common_steps)

pub push-requires-clause-room : goal.push-requires-clause-room
push-requires-clause-room c = grind (arith, common_steps)
