use Rattle.std.proofs.Common.{◌≡◌, ◌∙◌, sym, ap}
use Rattle.zh_returns.specs.Judgement.{is_accept, judge_row}
use Rattle.zh_returns.specs.Tally.{Tally}
use Rattle.zh_returns.proofs.JudgementLemmas.{rows_may_stand}
use Rattle.zh_returns.proofs.BatchLemmas.{judged_still, next_row, passed_row}
use Rattle.zh_returns.proofs.count.Count.put_rows.Goals as goal
use Rattle.zh_returns.proofs.count.Count.put_rows.Goals.{then-accepts, else-accepts}

pub put_row-requires-clause-stand : goal.put_row-requires-clause-stand
put_row-requires-clause-stand c =
    rw c.loop-i.invariant (rows_may_stand c.args.self.now c.args.rows.now c.loop-i.i c.get-row.result c.len-i-end.ensures.batch c.requires.accept c.get-row.ensures)

pub loop-i-preserved : goal.loop-i-preserved
loop-i-preserved c =
    let before = c.args.self.now in
    let rows = c.args.rows.now in
    let row = c.get-row.result in
    let judged : is_accept (judge_row before row) ≡ c.accepts.result =
    ap is_accept (sym (judged_still c.args.origin before rows c.loop-i.i row c.len-i-end.ensures.batch c.get-row.ensures)
    ∙ ap (λ (t : Tally). judge_row t row) (sym c.loop-i.invariant)) ∙ sym c.accepts.ensures in
    elim c.if-accepts.branch [
      | then-accepts w ↦
          rw w.self-is (rw w.put_row.ensures (rw c.loop-i.invariant (
          sym (next_row c.args.origin before rows c.loop-i.i row c.get-row.ensures (judged ∙ w.if-accepts.true)))))
      | else-accepts w ↦
          rw w.self-is (rw c.loop-i.invariant (
          sym (passed_row c.args.origin before rows c.loop-i.i row c.get-row.ensures (judged ∙ w.if-accepts.false))))
    ]
