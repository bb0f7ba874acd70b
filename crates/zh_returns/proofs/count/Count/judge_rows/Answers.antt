use Rattle.std.proofs.Common.{◌∙◌, Bool, true, false, cond, map, take, sym, ap, refl}
use Rattle.std.specs.List.{list_any}
use Rattle.std.proofs.Math.Bool.{or_comm}
use Rattle.zh_returns.specs.declared.judgement.Verdict.TheVariants.{Accept, Same, Refused}
use Rattle.zh_returns.specs.Judgement.{judge_row, is_accept}
use Rattle.zh_returns.proofs.VerdictLemmas.{unrefused_more, accepted_more, first_refusal}
use Rattle.zh_returns.proofs.count.Count.judge_rows.Goals as goal
use Rattle.zh_returns.proofs.count.Count.judge_rows.Goals.{in-Accept, in-Same}

pub returns-in-Refused : goal.returns-in-Refused
returns-in-Refused c =
    first_refusal (judge_row c.args.self.now) c.args.rows.now c.loop-i.i c.get.result (Refused c.in-Refused.reason) c.get.ensures c.in-Refused.ensures refl c.loop-i.invariant.unrefused

pub loop-i-preserved : goal.loop-i-preserved
loop-i-preserved c =
    let f = judge_row c.args.self.now in
    let rows = c.args.rows.now in
    let i = c.loop-i.i in
    let row = c.get.result in
    let before = list_any is_accept (map f (take i rows)) in
    elim c.match-judge_row.branch [
      | in-Accept w ↦ record {
        unrefused = unrefused_more f rows i row Accept c.get.ensures w.in-Accept.ensures refl c.loop-i.invariant.unrefused;
        verdict = w.verdict-is ∙ ap (λ (b : Bool). cond b Accept Same) (sym (accepted_more f rows i row Accept c.get.ensures w.in-Accept.ensures ∙ or_comm before true));
      }
      | in-Same w ↦ record {
        unrefused = unrefused_more f rows i row Same c.get.ensures w.in-Same.ensures refl c.loop-i.invariant.unrefused;
        verdict = w.verdict-is ∙ c.loop-i.invariant.verdict ∙ ap (λ (b : Bool). cond b Accept Same) (sym (accepted_more f rows i row Same c.get.ensures w.in-Same.ensures ∙ or_comm before false));
      }
    ]
