-- The answers of an office whose device does not fail and which has numbers left: none is disturbed.
use Rattle.std.proofs.Common.{◌≡◌, ℕ, Bool, true, false, refl, sym, ap, ◌∙◌, List, Result, Ok, Err}
use Rattle.zh_returns.specs.declared.row.Row.{Row}
use Rattle.zh_returns.specs.Tally.{Tally}
use Rattle.zh_sheet.specs.Distribution.{Distribution}
use Rattle.zh_sheet.specs.declared.fault.SheetFault.{SheetFault}
use Rattle.zh_sheet.specs.declared.fault.SheetFault.TheVariants as sheet_faults
use Rattle.zh_commands.specs.declared.lines.Line.{Line}
use Rattle.zh_commands.specs.declared.lines.LineFault.TheVariants as line_faults
use Rattle.zh_commands.specs.declared.replies.Reply.{Reply}
use Rattle.zh_commands.specs.declared.replies.Reply.TheVariants.{Refused}
use Rattle.zh_commands.specs.declared.replies.Refusal.TheVariants as refusals
use Rattle.zh_csv.specs.declared.batch_reader.LoadFault.{LoadFault}
use Rattle.zh_csv.specs.declared.batch_reader.LoadFault.TheVariants as load_faults
use Rattle.zh_office.specs.DeskBatches.{Held}
use Rattle.zh_returns.specs.declared.batch.Desk.{Desk}
use Rattle.zh_ledger.specs.Faults.{fails}
use Rattle.zh_ledger.specs.declared.outcome.Outcome.{Outcome}
use Rattle.zh_ledger.specs.declared.outcome.Outcome.TheVariants as outcomes
use Rattle.zh_office.proofs.WithoutCommandLemmas.{is_plain, HoldsWithoutCommand, without_command}
use Rattle.zh_office.specs.Sheets.{answer_with, MayGive}
use Rattle.zh_office.specs.declared.answer.Answer.{Answer}
use Rattle.zh_office.specs.declared.answer.Answer.TheVariants as answers
use Rattle.zh_office.specs.Requests.{MayAnswerWhere, reply_to}
use Rattle.zh_office.specs.Load.{load_refusal, load_reply}
use Rattle.zh_office.specs.Exchanges.{Given}
use Rattle.zh_office.specs.Exchanges.Given.{line, text}
use Rattle.zh_office.specs.Office.{Office, MayAnswer}
use Rattle.zh_office.specs.Undisturbed.{is_disturbed, is_memory, IsUndisturbed}
use Rattle.zh_office.proofs.SteadyLemmas.{finds_broken, spends}

-- the reply that reports an outcome
pub outcome_calm : (outcome : Outcome) → fails outcome ≡ false → finds_broken outcome ≡ false → spends outcome ≡ false → is_disturbed (answers.Reply (reply_to outcome)) ≡ false
outcome_calm (outcomes.Refused reason) calm whole left = cc
outcome_calm outcome calm whole left = cc

pub outcome_without_memory : (outcome : Outcome) → is_memory (answers.Reply (reply_to outcome)) ≡ false
outcome_without_memory (outcomes.Refused reason) = refl
outcome_without_memory outcome = refl

sheet_calm : (is_final : Bool) (made : Result Distribution SheetFault) → is_disturbed (answer_with is_final made) ≡ false
sheet_calm is_final (Ok sheet) = refl
sheet_calm is_final (Err sheet_faults.Memory) = refl
sheet_calm is_final (Err fault) = refl

given_calm : (tally : Tally) (is_final : Bool) (answer : Answer) → MayGive tally is_final answer → is_disturbed answer ≡ false
given_calm tally is_final answer (made, is_made, is) = ap is_disturbed is ∙ sheet_calm is_final made

plain_calm : (reply : Reply) → is_plain reply ≡ true → is_disturbed (answers.Reply reply) ≡ false
plain_calm (Refused refusals.Device) is = cc
plain_calm (Refused refusal) is = cc
plain_calm reply is = cc

plain_without_memory : (reply : Reply) → is_plain reply ≡ true → is_memory (answers.Reply reply) ≡ false
plain_without_memory (Refused refusals.Memory) is = cc
plain_without_memory (Refused refusal) is = cc
plain_without_memory reply is = cc

-- the reply to a text that is loaded
refusals_calm : (fault : LoadFault) → is_disturbed (answers.Reply (Refused (load_refusal fault))) ≡ false
refusals_calm load_faults.Csv = refl
refusals_calm fault = refl

loads_calm : (broken : Bool) (loaded : Result (List Row) LoadFault) → broken ≡ false → is_disturbed (answers.Reply (load_reply broken loaded)) ≡ false
loads_calm true loaded whole = absurd (cc whole)
loads_calm false (Ok rows) whole = refl
loads_calm false (Err fault) whole = refusals_calm fault

-- an answer is undisturbed if it equals an undisturbed one that does not report refused memory
as_this : (given : Given) (answer this : Answer) → answer ≡ this → is_disturbed this ≡ false → is_memory this ≡ false → IsUndisturbed given answer
as_this given answer this is calm memory = record {
  calm = ap is_disturbed is ∙ calm;
  memory = λ wrong. let never : true ≡ false = sym wrong ∙ ap is_memory is ∙ memory in absurd (cc never);
}

-- the answers to requests that give no command
answered_calm : (tally : Tally) (desk : Desk) (bytes : List ℕ)
    → HoldsWithoutCommand tally (λ request answer. IsUndisturbed (line bytes (Ok (record { desk = desk; request = request }))) answer)
answered_calm tally desk bytes = record {
  plain = λ request reply is. as_this _ _ _ refl (plain_calm reply is) (plain_without_memory reply is);
  memory = λ row. record { calm = refl; memory = λ _. tt };
  sheet = λ answer may. record { calm = given_calm tally false answer may; memory = λ _. tt };
  final = λ answer may. record { calm = given_calm tally true answer may; memory = λ _. tt };
}

-- what gives no command
read_where : (broken : Bool) (tally : Tally) (batches : Held) (bytes : List ℕ) (read : Line) (answer : Answer) → broken ≡ false
    → MayAnswerWhere broken tally batches read answer → IsUndisturbed (line bytes (Ok read)) answer
read_where true tally batches bytes read answer whole may = absurd (cc whole)
read_where false tally batches bytes read answer whole may =
    without_command tally (λ request answer. IsUndisturbed (line bytes (Ok (record { desk = read.desk; request = request }))) answer)
    (answered_calm tally read.desk bytes) batches read.desk read.request answer may

pub taken_calm : (office : Office) (given : Given) (answer : Answer) → office.ledger.store.broken ≡ false → MayAnswer office given answer → IsUndisturbed given answer
taken_calm office (line bytes (Err line_faults.Syntax)) answer whole is = as_this _ _ _ is refl refl
taken_calm office (line bytes (Err line_faults.Desk)) answer whole is = as_this _ _ _ is refl refl
taken_calm office (line bytes (Ok read)) answer whole may = read_where office.ledger.store.broken office.ledger.tally office.held bytes read answer whole may
taken_calm office (text bytes loaded) answer whole is = record { calm = ap is_disturbed is ∙ loads_calm office.ledger.store.broken loaded whole; memory = λ _. tt }
