-- The answer to a line as far as the count and the desks' batches determine it, and the batches after it.
use Rattle.std.specs.Prelude.{◌≡◌, ◌⊎◌, ℕ, ◌+◌, false, List, [], ◌∷◌, ◌++◌, length, Option, Some, None}
use Rattle.zh_districts.specs.Misplaced.{misplaced}
use Rattle.zh_districts.specs.declared.setup.Misplaced.{Misplaced}
use Rattle.zh_returns.specs.Tally.{Tally, held}
use Rattle.zh_returns.specs.declared.row.Row.{Row}
use Rattle.zh_returns.specs.declared.entry.Entry.{Entry}
use Rattle.zh_returns.specs.declared.command.Command.{Command}
use Rattle.zh_returns.specs.declared.command.Command.TheVariants as commands
use Rattle.zh_returns.specs.declared.judgement.Reason.{Reason}
use Rattle.zh_returns.specs.Judgement.{reason_of}
use Rattle.zh_office.specs.DeskBatches as desks
use Rattle.zh_office.specs.DeskBatches.{rows_of, with_batch}
use Rattle.zh_returns.specs.declared.batch.Desk.{Desk}
use Rattle.zh_returns.specs.RowFaults.{unfit, fault_in}
use Rattle.zh_returns.specs.declared.row.RowFault.{RowFault}
use Rattle.zh_commands.specs.Commands.{desk_command}
use Rattle.zh_commands.specs.declared.lines.Line.{Line}
use Rattle.zh_commands.specs.declared.lines.Request.{Request}
use Rattle.zh_commands.specs.declared.lines.Request.TheVariants as requests
use Rattle.zh_commands.specs.declared.lines.BatchStep.{BatchStep}
use Rattle.zh_commands.specs.declared.lines.BatchStep.TheVariants as steps
use Rattle.zh_commands.specs.declared.lines.DeskQuery.{DeskQuery}
use Rattle.zh_commands.specs.declared.lines.DeskQuery.TheVariants as queries
use Rattle.zh_commands.specs.declared.replies.Reply.{Reply}
use Rattle.zh_commands.specs.declared.replies.Reply.TheVariants.{Stored, Same, Held, Dropped, Refused}
use Rattle.zh_commands.specs.declared.replies.Reply.TheVariants.{Nothing, Shows, ShowsWithdrawn, LastDesk}
use Rattle.zh_commands.specs.declared.replies.Refusal.TheVariants as refusals
use Rattle.zh_office.specs.Sheets.{MayGive, MayAnswerFinal}
use Rattle.zh_office.specs.declared.answer.Answer.{Answer}
use Rattle.zh_office.specs.declared.answer.Answer.TheVariants as answers

-- the reply that shows an entry
abbrev pub shown_content : ℕ → Option ℕ → Reply
shown_content number None = ShowsWithdrawn number
shown_content number (Some votes) = Shows number votes

abbrev pub shown : Option Entry → Reply
shown None = Nothing
shown (Some entry) = shown_content entry.number entry.votes

-- the desk that set an entry
abbrev pub shown_desk : Option Entry → Reply
shown_desk None = Nothing
shown_desk (Some entry) = LastDesk entry.origin.desk

-- if the municipality does not exist, or the list does not stand there, this is refused; otherwise this reply is given
abbrev pub reply_by_place : Option Misplaced → Reply → Reply
reply_by_place (Some place) reply = Refused (refusals.Judged (reason_of place))
reply_by_place None reply = reply

abbrev pub answer_to_show : Tally → ℕ → ℕ → Reply
answer_to_show tally municipality list =
    reply_by_place (misplaced tally.canton municipality list) (shown (held tally municipality list))

abbrev pub answer_to_last : Tally → ℕ → ℕ → Reply
answer_to_last tally municipality list =
    reply_by_place (misplaced tally.canton municipality list) (shown_desk (held tally municipality list))

-- the answer to opening a batch
abbrev pub answer_to_open : Option (List Row) → Reply
answer_to_open None = Held 0
answer_to_open (Some rows) = Refused refusals.BatchOpen

-- the answer to dropping a batch
abbrev pub answer_to_drop : Option (List Row) → Reply
answer_to_drop None = Refused refusals.NoBatch
answer_to_drop (Some rows) = Dropped (length rows)

-- the answers to a row, by why a batch of `count` rows refuses it, if it does; if it does not, the row is held or memory is refused
abbrev pub MayHold : Option RowFault → ℕ → Reply → Type 0
MayHold (Some fault) count reply = reply ≡ Refused (refusals.Row fault)
MayHold None count reply = (reply ≡ Held (count + 1)) ⊎ (reply ≡ Refused refusals.Memory)

abbrev pub MayAdd : Option Reason → List Row → Row → Reply → Type 0
MayAdd (Some reason) rows row reply = reply ≡ Refused (refusals.Judged reason)
MayAdd None rows row reply = MayHold (fault_in rows row) (length rows) reply

abbrev pub MayAnswerRow : Tally → Option (List Row) → Row → Reply → Type 0
MayAnswerRow tally None row reply = reply ≡ Refused refusals.NoBatch
MayAnswerRow tally (Some rows) row reply = MayAdd (unfit tally.canton row) rows row reply

-- the answer to a commit that gives no command: the desk has no batch, or its batch has no rows
abbrev pub answer_to_commit : Option (List Row) → Reply
answer_to_commit None = Refused refusals.NoBatch
answer_to_commit (Some rows) = Same

-- the replies to a step of a desk that has this batch
abbrev pub MayReplyToStep : Tally → Option (List Row) → BatchStep → Reply → Type 0
MayReplyToStep tally rows steps.Open reply = reply ≡ answer_to_open rows
MayReplyToStep tally rows (steps.Row row) reply = MayAnswerRow tally rows row reply
MayReplyToStep tally rows steps.Drop reply = reply ≡ answer_to_drop rows

-- the answers to a query
abbrev pub MayAnswerQuery : Tally → DeskQuery → Answer → Type 0
MayAnswerQuery tally (queries.Show municipality list) answer = answer ≡ answers.Reply (answer_to_show tally municipality list)
MayAnswerQuery tally (queries.Last municipality list) answer = answer ≡ answers.Reply (answer_to_last tally municipality list)
MayAnswerQuery tally queries.Sheet answer = MayGive tally false answer
MayAnswerQuery tally queries.Final answer = MayAnswerFinal tally answer

-- the possible answers to a line of this desk that gives no command, by the count and the batches
abbrev pub MayAnswerTo : Tally → desks.Held → Desk → Request → Answer → Type 0
MayAnswerTo tally batches desk (requests.Command command) answer = ⊥
MayAnswerTo tally batches desk requests.Commit answer = answer ≡ answers.Reply (answer_to_commit (rows_of batches desk))
MayAnswerTo tally batches desk (requests.Batch step) answer =
    (reply : Reply) × MayReplyToStep tally (rows_of batches desk) step reply × (answer ≡ answers.Reply reply)
MayAnswerTo tally batches desk (requests.Query query) answer = MayAnswerQuery tally query answer

-- the command of a desk's commit
abbrev pub batch_of : ℕ → Option (List Row) → Option Command
batch_of desk None = None
batch_of desk (Some []) = None
batch_of desk (Some (row ∷ rows)) = Some (commands.Batch desk (row ∷ rows))

-- the command of a line, from a desk whose batch has these rows
abbrev pub command_of : Desk → Option (List Row) → Request → Option Command
command_of desk rows (requests.Command command) = Some (desk_command desk command)
command_of desk rows requests.Commit = batch_of desk.number rows
command_of desk rows request = None

-- the batch of a desk after a line of the desk and this reply
abbrev pub batch_after : Option (List Row) → Request → Reply → Option (List Row)
batch_after rows (requests.Batch steps.Open) (Held count) = Some []
batch_after (Some rows) (requests.Batch (steps.Row row)) (Held count) = Some (rows ++ row ∷ [])
batch_after rows (requests.Batch steps.Drop) (Dropped count) = None
batch_after rows requests.Commit (Stored accepted) = None
batch_after rows requests.Commit Same = None
batch_after rows request reply = rows

-- the batches after a line and this answer: only the batch of the line's desk can change
abbrev pub held_after : desks.Held → Line → Answer → desks.Held
held_after held line (answers.Reply reply) = with_batch held line.desk (batch_after (rows_of held line.desk) line.request reply)
held_after held line (answers.Sheet sheet is_final) = held
