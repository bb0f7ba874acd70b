use Rattle.std.proofs.Common.{ap, sym, ◌∙◌}
use Rattle.zh_returns.specs.Judgement.{judge}
use Rattle.zh_returns.proofs.count.Count.judge.Goals as goal

pub returns-in-Withdraw : goal.returns-in-Withdraw
returns-in-Withdraw c = c.judge_content.ensures ∙ sym (ap (judge c.args.self.now) c.in-Withdraw.is)
