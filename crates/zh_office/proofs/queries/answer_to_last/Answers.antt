use Rattle.std.proofs.Common.{Option, sym, ap, ◌∙◌}
use Rattle.zh_districts.specs.Misplaced.{misplaced}
use Rattle.zh_districts.specs.declared.setup.Misplaced.{Misplaced}
use Rattle.zh_office.specs.Answers.{shown_desk, reply_by_place}
use Rattle.zh_commands.specs.declared.replies.Refusal.TheVariants as refusals
use Rattle.zh_commands.specs.declared.replies.Reply.TheVariants as replies
use Rattle.zh_returns.specs.declared.judgement.Reason.{Reason}
use Rattle.zh_returns.specs.Tally.{held}
use Rattle.zh_office.proofs.queries.answer_to_last.Goals as goal

pub returns-in-Some : goal.returns-in-Some
returns-in-Some c =
    let judged = ap (λ t. misplaced t c.args.municipality c.args.list) (sym c.setup.ensures) ∙ sym c.misplaced.ensures.misplaced ∙ c.in-Some.is in
    ap (λ (r : Reason). replies.Refused (refusals.Judged r)) c.from.ensures
    ∙ sym (ap (λ (o : Option Misplaced). reply_by_place o (shown_desk (held c.args.count.now c.args.municipality c.args.list))) judged)
