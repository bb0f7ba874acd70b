use Rattle.std.proofs.Common.{rules, ℕ, ◌≤◌, arith}
use Rattle.zh_decided.specs.Levels.{IsColumnMark, potential_at}
use Rattle.zh_decided.specs.Prices.{Priced}
use Rattle.zh_decided.specs.Taken.{priced_in}
use Rattle.zh_decided.specs.declared.prices.Mark.{Mark}
use Rattle.zh_decided.proofs.MarkLemmas.{marked}
use Rattle.zh_decided.proofs.levels.column_marks.Goals as goal

pub loop-column-preserved : goal.loop-column-preserved
loop-column-preserved c =
    let m : Priced = priced_in c.args.priced.now in
    let P : ℕ → Mark → Type 0 = λ g mark. IsColumnMark m c.args.bounds c.args.rows.now (potential_at c.args.before.now g) g mark in
    let Q : ℕ → Mark → Type 0 = λ g mark. c.args.bounds.column_floor ≤ mark.potential in
    record {
      long = search rules;
      each = marked P c.loop-column.columns c.loop-column.column c.column_mark-mark.result (omega arith) c.loop-column.invariant.each
          c.column_mark-mark.ensures;
      floors = marked Q c.loop-column.columns c.loop-column.column c.column_mark-mark.result (omega arith) c.loop-column.invariant.floors
          c.if-mark-bounds.false;
    }
