use Rattle.std.proofs.Common.{◌≡◌, ◌≢◌, length}
use Rattle.std.proofs.lemmas.Result.{IfOk-weaker}
use Rattle.zh_check.specs.Others.{IsOther, IsOtherVotes}
use Rattle.zh_check.proofs.others.other_votes.Goals as goal

pub returns-in-None : goal.returns-in-None
returns-in-None c =
    IfOk-weaker c.other_after-in-None.result (IsOther c.args.text.now 0 0)
    (λ other. length c.args.held.now ≡ length c.args.votes.now → c.args.votes.now ≢ c.args.held.now →
    IsOtherVotes c.args.setup.now c.args.text.now c.args.votes.now c.args.held.now other)
    (λ other is same differ. absurd (differ (c.in-None.ensures.none same)))
    c.other_after-in-None.ensures
