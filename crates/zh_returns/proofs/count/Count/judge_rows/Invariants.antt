use Rattle.std.proofs.Common.{◌≡◌, None, cond, map, take}
use Rattle.std.specs.List.{find, list_any}
use Rattle.zh_returns.specs.declared.judgement.Verdict.TheVariants.{Accept, Same}
use Rattle.zh_returns.specs.Judgement.{judge_row, is_refusal, is_accept}
use Rattle.zh_returns.proofs.count.Count.judge_rows.Given as goal

abbrev pub invariant-loop-i : goal.invariant-loop-i
invariant-loop-i l = record {
  unrefused : find is_refusal (map (judge_row l.self) (take l.i l.rows)) ≡ None;
  verdict : l.verdict ≡ cond (list_any is_accept (map (judge_row l.self) (take l.i l.rows))) Accept Same;
}
