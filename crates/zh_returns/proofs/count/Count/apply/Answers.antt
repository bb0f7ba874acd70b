use Rattle.std.proofs.Common.{◌≡◌, ◌∙◌, Some, sym, ap}
use Rattle.zh_returns.specs.declared.judgement.Verdict.TheVariants.{Accept}
use Rattle.zh_returns.specs.Judgement.{judge, judge_row, is_refusal}
use Rattle.zh_returns.proofs.JudgementLemmas.{row_may_stand, accepted_from_one}
use Rattle.zh_returns.proofs.count.Count.apply.Goals as goal

pub put_row-requires-clause-stand : goal.put_row-requires-clause-stand
put_row-requires-clause-stand c =
    let tally = c.args.self.now in
    let row = c.in-Return.row in
    let accepted : judge_row tally row ≡ Accept = ap (judge tally) (sym c.in-Return.is) ∙ c.requires.accept in
    row_may_stand tally row (accepted_from_one tally row.municipality row.list row.number (Some row.votes) accepted) (ap is_refusal accepted)
