use Rattle.std.proofs.Common.{rules, ℕ, ◌≤◌, arith}
use Rattle.zh_decided.specs.Levels.{IsRowMark}
use Rattle.zh_decided.specs.Prices.{Priced}
use Rattle.zh_decided.specs.Taken.{priced_in}
use Rattle.zh_decided.specs.declared.prices.Mark.{Mark}
use Rattle.zh_decided.proofs.MarkLemmas.{marked}
use Rattle.zh_decided.proofs.levels.row_marks.Goals as goal

pub loop-row-preserved : goal.loop-row-preserved
loop-row-preserved c =
    let m : Priced = priced_in c.args.priced.now in
    let P : ℕ → Mark → Type 0 = λ d mark. IsRowMark m c.args.bounds c.args.columns.now d mark in
    let Q : ℕ → Mark → Type 0 = λ d mark. c.args.bounds.row_floor ≤ mark.potential in
    record {
      long = search rules;
      each = marked P c.loop-row.rows c.loop-row.row c.row_mark-mark.result (omega arith) c.loop-row.invariant.each c.row_mark-mark.ensures;
      floors = marked Q c.loop-row.rows c.loop-row.row c.row_mark-mark.result (omega arith) c.loop-row.invariant.floors
          c.if-mark-bounds.false;
    }
