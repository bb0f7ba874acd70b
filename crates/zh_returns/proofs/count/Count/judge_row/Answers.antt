use Rattle.zh_returns.proofs.count.Count.judge_row.Goals as goal

pub returns : goal.returns
returns c = c.judge_content.ensures
