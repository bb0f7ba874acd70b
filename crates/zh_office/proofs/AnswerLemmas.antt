-- The answers to a line that gives no command, and to a line that gives a command by itself.
use Rattle.std.proofs.Common.{◌≡◌, ◌<◌, ◌≤◌, ℕ, List, [], ◌∷◌, length, Bool, false, Option, Some, None, refl, sym, subst, ap, arith}
use Rattle.std.proofs.lemmas.List.{set-get_or}
use Rattle.zh_returns.specs.declared.row.Row.{Row}
use Rattle.zh_returns.specs.declared.command.Command.{Command}
use Rattle.zh_returns.specs.declared.command.Command.TheVariants as commands
use Rattle.zh_commands.specs.declared.lines.BatchStep.TheVariants as steps
use Rattle.zh_commands.specs.declared.lines.DeskCommand.{DeskCommand}
use Rattle.zh_commands.specs.declared.lines.Line.{Line}
use Rattle.zh_commands.specs.declared.lines.DeskQuery.{DeskQuery}
use Rattle.zh_commands.specs.declared.lines.Request.{Request}
use Rattle.zh_commands.specs.declared.lines.Request.TheVariants as requests
use Rattle.zh_commands.specs.declared.replies.Reply.{Reply}
use Rattle.zh_commands.specs.declared.replies.Reply.TheVariants.{Refused}
use Rattle.zh_commands.specs.declared.replies.Refusal.{Refusal}
use Rattle.zh_ledger.specs.Ledger.{Ledger}
use Rattle.zh_ledger.specs.Submissions.{OnDisk}
use Rattle.zh_office.specs.DeskBatches.{Held, rows_of, with_batch}
use Rattle.zh_returns.specs.Tally.{Tally}
use Rattle.zh_office.specs.Answers.{MayAnswerTo, answer_to_commit, batch_after, batch_of, command_of, held_after}
use Rattle.zh_office.specs.declared.answer.Answer.{Answer}
use Rattle.zh_office.specs.declared.answer.Answer.TheVariants as answers
use Rattle.zh_office.specs.Requests.{Acts, MayAnswerWhere, ReportsOutcome}

-- an answer to a request is an answer to the line with that request
pub request_acts : (old new : OnDisk Ledger) (tally : Tally) (held : Held) (line : Line) (request : Request) (answer : Answer) → old.holder.store.broken ≡ false → line.request ≡ request
    → Acts old (command_of line.desk (rows_of held line.desk) request) (MayAnswerTo tally held line.desk request) answer new
    → Acts old (command_of line.desk (rows_of held line.desk) line.request) (MayAnswerWhere old.holder.store.broken tally held line) answer new
request_acts old new tally held line request answer whole is acts =
    let command = command_of line.desk (rows_of held line.desk) line.request in
    subst (λ (b : Bool). Acts old command (MayAnswerWhere b tally held line) answer new) (sym whole)
    (subst (λ (request : Request). Acts old (command_of line.desk (rows_of held line.desk) request) (MayAnswerTo tally held line.desk request) answer new) (sym is) acts)

refused_batch : (rows : Option (List Row)) (request : Request) (refusal : Refusal) → batch_after rows request (Refused refusal) ≡ rows
refused_batch None (requests.Batch steps.Open) refusal = refl
refused_batch (Some rows) (requests.Batch steps.Open) refusal = refl
refused_batch rows request refusal = refl

-- a refusal leaves the batches unchanged
pub refused_held : (held : Held) (line : Line) (refusal : Refusal) → held ≡ held_after held line (answers.Reply (Refused refusal))
refused_held held line refusal = rw refused_batch (sym (set-get_or _ _ _))

-- a command leaves the batches unchanged, too
pub own_held : (held : Held) (line : Line) (command : DeskCommand) (reply : Reply) → line.request ≡ requests.Command command → held ≡ held_after held line (answers.Reply reply)
own_held held line command reply is =
    let kept : batch_after (rows_of held line.desk) line.request reply ≡ rows_of held line.desk = ap (λ (request : Request). batch_after (rows_of held line.desk) request reply) is in
    rw kept (sym (set-get_or _ _ _))

-- the batches after a request are the batches after the line with that request
pub step_held : (held new : Held) (line : Line) (request : Request) (reply : Reply) → line.request ≡ request
    → new ≡ with_batch held line.desk (batch_after (rows_of held line.desk) request reply) → new ≡ held_after held line (answers.Reply reply)
step_held held new line request reply is after =
    subst (λ (r : Request). new ≡ with_batch held line.desk (batch_after (rows_of held line.desk) r reply)) (sym is) after

-- a query leaves the batches unchanged
pub query_held : (held : Held) (line : Line) (query : DeskQuery) (answer : Answer) → line.request ≡ requests.Query query → held ≡ held_after held line answer
query_held held line query (answers.Sheet sheet is_final) is = refl
query_held held line query (answers.Reply reply) is =
    let kept : batch_after (rows_of held line.desk) line.request reply ≡ rows_of held line.desk = ap (λ (request : Request). batch_after (rows_of held line.desk) request reply) is in
    rw kept (sym (set-get_or _ _ _))

-- a commit of a batch with rows is answered as its command is
pub batch_acts : (old new : OnDisk Ledger) (desk : ℕ) (rows : Option (List Row)) (batch : List Row) (May : Answer → Type 0) (answer : Answer)
    → Some batch ≡ rows → 0 < length batch → ReportsOutcome old (commands.Batch desk batch) answer new → Acts old (batch_of desk rows) May answer new
batch_acts old new desk rows [] May answer is some by = absurd (omega (arith, some))
batch_acts old new desk rows (row ∷ batch) May answer is some by =
    subst (λ (rows : Option (List Row)). Acts old (batch_of desk rows) May answer new) is by

-- a commit of a batch without rows, or without a batch, is answered from memory
pub quiet_commit : (old : OnDisk Ledger) (desk : ℕ) (rows : Option (List Row)) (batch : Option (List Row)) → batch ≡ rows → None ≡ batch_of desk batch
    → Acts old (batch_of desk rows) (λ answer. answer ≡ answers.Reply (answer_to_commit rows)) (answers.Reply (answer_to_commit batch)) old
quiet_commit old desk rows batch is none =
    subst (λ (rows : Option (List Row)). Acts old (batch_of desk rows) (λ answer. answer ≡ answers.Reply (answer_to_commit rows)) (answers.Reply (answer_to_commit batch)) old) is
    (subst (λ (given : Option Command). Acts old given (λ answer. answer ≡ answers.Reply (answer_to_commit batch)) (answers.Reply (answer_to_commit batch)) old) none (refl, refl))

pub empty_is : (desk : ℕ) (batch : List Row) → length batch ≤ 0 → None ≡ batch_of desk (Some batch)
empty_is desk [] none = refl
empty_is desk (row ∷ batch) none = absurd (omega (arith, none))
