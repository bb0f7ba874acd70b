-- The answers to a line that gives no command: plain replies, `memory` for a row, and the answers with a sheet.
use Rattle.std.proofs.Common.{◌≡◌, ⊎_elim, ℕ, Bool, true, false, List, Option, Some, None, refl, sym, ap, subst, rules}
use Rattle.zh_districts.specs.declared.setup.Misplaced.{Misplaced}
use Rattle.zh_returns.specs.declared.row.Row.{Row}
use Rattle.zh_returns.specs.Tally.{Tally}
use Rattle.zh_returns.specs.declared.entry.Entry.{Entry}
use Rattle.zh_returns.specs.declared.judgement.Reason.{Reason}
use Rattle.zh_office.specs.DeskBatches as desks
use Rattle.zh_office.specs.DeskBatches.{rows_of}
use Rattle.zh_returns.specs.RowFaults.{unfit, fault_in}
use Rattle.zh_returns.specs.declared.batch.Desk.{Desk}
use Rattle.zh_returns.specs.declared.row.RowFault.{RowFault}
use Rattle.zh_commands.specs.declared.lines.BatchStep.{BatchStep}
use Rattle.zh_commands.specs.declared.lines.BatchStep.TheVariants as steps
use Rattle.zh_commands.specs.declared.lines.DeskQuery.{DeskQuery}
use Rattle.zh_commands.specs.declared.lines.DeskQuery.TheVariants as queries
use Rattle.zh_commands.specs.declared.lines.Request.{Request}
use Rattle.zh_commands.specs.declared.lines.Request.TheVariants as requests
use Rattle.zh_commands.specs.declared.replies.Reply.{Reply}
use Rattle.zh_commands.specs.declared.replies.Reply.TheVariants.{Stored, Refused}
use Rattle.zh_commands.specs.declared.replies.Refusal.TheVariants as refusals
use Rattle.zh_office.specs.Answers.{MayAdd, MayAnswerQuery, MayAnswerRow, MayAnswerTo, MayHold, MayReplyToStep, answer_to_commit, reply_by_place, shown, shown_content, shown_desk}
use Rattle.zh_office.specs.Sheets.{MayGive}
use Rattle.zh_office.specs.declared.answer.Answer.{Answer}
use Rattle.zh_office.specs.declared.answer.Answer.TheVariants as answers

-- the replies that depend on the count and the batches alone
abbrev pub is_plain : Reply → Bool
is_plain (Stored accepted) = false
is_plain (Refused (refusals.Judged reason)) = true
is_plain (Refused (refusals.Row fault)) = true
is_plain (Refused refusals.NoBatch) = true
is_plain (Refused refusals.BatchOpen) = true
is_plain (Refused refusal) = false
is_plain reply = true

-- a property of all these answers
pub record HoldsWithoutCommand (tally : Tally) (P : Request → Answer → Type 0) : Type 0 where
  pub plain : (request : Request) (reply : Reply) → is_plain reply ≡ true → P request (answers.Reply reply)
  pub memory : (row : Row) → P (requests.Batch (steps.Row row)) (answers.Reply (Refused refusals.Memory))
  pub sheet : (answer : Answer) → MayGive tally false answer → P (requests.Query queries.Sheet) answer
  pub final : (answer : Answer) → MayGive tally true answer → P (requests.Query queries.Final) answer

committed : (rows : Option (List Row)) → is_plain (answer_to_commit rows) ≡ true
committed None = refl
committed (Some rows) = refl

showed : (number : ℕ) (votes : Option ℕ) → is_plain (shown_content number votes) ≡ true
showed number None = refl
showed number (Some votes) = refl

entry_showed : (entry : Option Entry) → is_plain (shown entry) ≡ true
entry_showed None = refl
entry_showed (Some entry) = showed entry.number entry.votes

desk_showed : (entry : Option Entry) → is_plain (shown_desk entry) ≡ true
desk_showed None = refl
desk_showed (Some entry) = refl

placed : (place : Option Misplaced) (reply : Reply) → is_plain reply ≡ true → is_plain (reply_by_place place reply) ≡ true
placed (Some place) reply is = refl
placed None reply is = is

module _ (tally : Tally) (P : Request → Answer → Type 0) (holds : HoldsWithoutCommand tally P) where
  plainly : (request : Request) (answer : Answer) (reply : Reply) → answer ≡ answers.Reply reply → is_plain reply ≡ true → P request answer
  plainly request answer reply is plain = subst (P request) (sym is) (holds.plain request reply plain)

  -- a row is held or refused
  row_held : (fault : Option RowFault) (count : ℕ) (row : Row) (reply : Reply) → MayHold fault count reply → P (requests.Batch (steps.Row row)) (answers.Reply reply)
  row_held (Some fault) count row reply is = plainly _ _ _ (ap answers.Reply is) refl
  row_held None count row reply may = ⊎_elim
      (λ is. plainly _ _ _ (ap answers.Reply is) refl)
      (λ is. subst (λ (r : Reply). P (requests.Batch (steps.Row row)) (answers.Reply r)) (sym is) (holds.memory row)) may

  row_added : (reason : Option Reason) (rows : List Row) (row : Row) (reply : Reply) → MayAdd reason rows row reply → P (requests.Batch (steps.Row row)) (answers.Reply reply)
  row_added (Some reason) rows row reply is = plainly _ _ _ (ap answers.Reply is) refl
  row_added None rows row reply may = row_held (fault_in rows row) _ row reply may

  row_answered : (rows : Option (List Row)) (row : Row) (reply : Reply) → MayAnswerRow tally rows row reply → P (requests.Batch (steps.Row row)) (answers.Reply reply)
  row_answered None row reply is = plainly _ _ _ (ap answers.Reply is) refl
  row_answered (Some rows) row reply may = row_added (unfit tally.canton row) rows row reply may

  step_taken : (rows : Option (List Row)) (step : BatchStep) (reply : Reply) → MayReplyToStep tally rows step reply → P (requests.Batch step) (answers.Reply reply)
  step_taken rows (steps.Row row) reply may = row_answered rows row reply may
  step_taken None step reply is = plainly _ _ _ (ap answers.Reply is) (search rules)
  step_taken (Some rows) step reply is = plainly _ _ _ (ap answers.Reply is) (search rules)

  query_answered : (query : DeskQuery) (answer : Answer) → MayAnswerQuery tally query answer → P (requests.Query query) answer
  query_answered queries.Sheet answer may = holds.sheet answer may
  query_answered queries.Final answer may = ⊎_elim (λ first. plainly _ _ _ first.2 refl) (λ closed. holds.final answer closed.1) may
  query_answered query answer is = plainly _ _ _ is (search (rules, placed, entry_showed, desk_showed))

  pub without_command : (batches : desks.Held) (desk : Desk) (request : Request) (answer : Answer) → MayAnswerTo tally batches desk request answer → P request answer
  without_command batches desk (requests.Command command) answer may = absurd may
  without_command batches desk requests.Commit answer is = plainly _ _ _ is (committed (rows_of batches desk))
  without_command batches desk (requests.Batch step) answer (reply, may, is) = subst (P (requests.Batch step)) (sym is) (step_taken (rows_of batches desk) step reply may)
  without_command batches desk (requests.Query query) answer may = query_answered query answer may
