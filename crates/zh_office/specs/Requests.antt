-- The answer to a line that was read, and the ledger and its disk after it.
use Rattle.std.specs.Prelude.{◌≡◌, Bool, true, false, Option, Some, None}
use Rattle.zh_returns.specs.declared.command.Command.{Command}
use Rattle.zh_returns.specs.Tally.{Tally}
use Rattle.zh_office.specs.DeskBatches.{Held}
use Rattle.zh_commands.specs.declared.lines.Line.{Line}
use Rattle.zh_commands.specs.declared.replies.Reply.{Reply}
use Rattle.zh_commands.specs.declared.replies.Reply.TheVariants.{Stored, Same, Refused}
use Rattle.zh_commands.specs.declared.replies.Refusal.TheVariants as refusals
use Rattle.zh_ledger.specs.Ledger.{Ledger}
use Rattle.zh_ledger.specs.Submissions.{OnDisk, Submission}
use Rattle.zh_ledger.specs.declared.outcome.Outcome.{Outcome}
use Rattle.zh_ledger.specs.declared.outcome.Outcome.TheVariants as outcomes
use Rattle.zh_office.specs.Answers.{MayAnswerTo}
use Rattle.zh_office.specs.declared.answer.Answer.{Answer}
use Rattle.zh_office.specs.declared.answer.Answer.TheVariants as answers

-- the reply that reports the outcome of a command
abbrev pub reply_to : Outcome → Reply
reply_to (outcomes.Stored accepted) = Stored accepted
reply_to outcomes.Same = Same
reply_to (outcomes.Refused reason) = Refused (refusals.Judged reason)
reply_to outcomes.Spent = Refused refusals.Spent
reply_to outcomes.Device = Refused refusals.Device
reply_to outcomes.Broken = Refused refusals.ReopenDisk

-- after a fault of the device the disk must be reopened
abbrev pub MayAnswerWhere : Bool → Tally → Held → Line → Answer → Type 0
MayAnswerWhere true tally held line answer = answer ≡ answers.Reply (Refused refusals.ReopenDisk)
MayAnswerWhere false tally held line answer = MayAnswerTo tally held line.desk line.request answer

-- a command is submitted and its outcome reported
pub record ReportsOutcome (old : OnDisk Ledger) (command : Command) (answer : Answer) (new : OnDisk Ledger) : Type 0 where
  pub outcome : Outcome
  pub submission : Submission old command outcome new
  pub reply : answer ≡ answers.Reply (reply_to outcome)

-- A possible answer, and the ledger and the disk after it. Without a command nothing changes; a command is submitted and its outcome
-- reported.
abbrev pub Acts : OnDisk Ledger → Option Command → (Answer → Type 0) → Answer → OnDisk Ledger → Type 0
Acts old None May answer new = May answer × (new ≡ old)
Acts old (Some command) May answer new = ReportsOutcome old command answer new

-- whether the disk may have changed; after every answer except `stored` and `device` it has not
abbrev pub answer_may_write : Answer → Bool
answer_may_write (answers.Reply (Stored accepted)) = true
answer_may_write (answers.Reply (Refused refusals.Device)) = true
answer_may_write answer = false
