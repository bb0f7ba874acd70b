use Rattle.std.proofs.Common.{◌≡◌, ap, ◌∙◌, refl, sym}
use Rattle.zh_ledger.specs.Faults.{may_write}
use Rattle.zh_ledger.specs.declared.outcome.Outcome.{Outcome}
use Rattle.zh_ledger.specs.declared.outcome.Outcome.TheVariants as outcomes
use Rattle.zh_commands.specs.declared.replies.Reply.{Reply}
use Rattle.zh_office.specs.Requests.{answer_may_write, reply_to}
use Rattle.zh_office.specs.declared.answer.Answer.TheVariants as answers
use Rattle.zh_office.proofs.answer.submit.Goals as goal

-- an outcome may write exactly if the reply that reports it may
may_write_alike : (outcome : Outcome) → may_write outcome ≡ answer_may_write (answers.Reply (reply_to outcome))
may_write_alike (outcomes.Refused reason) = refl
may_write_alike outcome = refl

pub returns-clause-reported : goal.returns-clause-reported
returns-clause-reported g c =
    record { outcome = c.submit.result; submission = c.submit.ensures.submission; reply = ap answers.Reply c.reply_to.ensures }

pub returns-clause-untouched : goal.returns-clause-untouched
returns-clause-untouched g c = λ still.
    c.submit.ensures.untouched (may_write_alike c.submit.result ∙ ap (λ (r : Reply). answer_may_write (answers.Reply r)) (sym c.reply_to.ensures) ∙ still)
