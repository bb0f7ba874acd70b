-- What a sheet, or a report of a tie, says about the count. A line without a command has few possible answers, which are
-- checked one by one; the answer to a command reports an outcome, which is neither of the two.
use Rattle.std.proofs.Common.{◌≡◌, ◌≢◌, ℕ, List, Bool, true, false, Option, Some, None, Result, Ok, Err, refl, sym, subst}
use Rattle.zh_returns.specs.declared.command.Command.{Command}
use Rattle.zh_returns.specs.Tally.{Tally}
use Rattle.zh_returns.specs.declared.row.Row.{Row}
use Rattle.zh_csv.specs.declared.batch_reader.LoadFault.{LoadFault}
use Rattle.zh_csv.specs.declared.batch_reader.LoadFault.TheVariants as loading
use Rattle.zh_office.specs.DeskBatches as desks
use Rattle.zh_commands.specs.declared.lines.Line.{Line}
use Rattle.zh_commands.specs.declared.lines.LineFault.TheVariants as lines
use Rattle.zh_commands.specs.declared.replies.Reply.{Reply}
use Rattle.zh_commands.specs.declared.replies.Reply.TheVariants.{Refused, Stored}
use Rattle.zh_commands.specs.declared.replies.Refusal.TheVariants as refusals
use Rattle.zh_totals.specs.Counting.{totals_of}
use Rattle.zh_totals.specs.Totals.{VoteTotals}
use Rattle.zh_sheet.specs.Distribution.{Distribution}
use Rattle.zh_sheet.specs.Made.{IsMade, IsSheetOf}
use Rattle.zh_sheet.specs.Refusals.{LeaveNoSeats}
use Rattle.zh_sheet.specs.declared.fault.SheetFault.{SheetFault}
use Rattle.zh_sheet.specs.declared.fault.SheetFault.TheVariants as faults
use Rattle.zh_upper.specs.declared.fault.UpperRefusal.TheVariants as uppers
use Rattle.zh_sheet.specs.declared.fault.SheetRefusal.TheVariants as sheets
use Rattle.zh_ledger.specs.Ledger.{Ledger}
use Rattle.zh_ledger.specs.Submissions.{OnDisk}
use Rattle.zh_ledger.specs.declared.outcome.Outcome.{Outcome}
use Rattle.zh_ledger.specs.declared.outcome.Outcome.TheVariants as outcomes
use Rattle.zh_office.proofs.CallerLemmas.{is_plain, HoldsWithoutCommand, without_command}
use Rattle.zh_office.specs.Requests.{Acts, MayAnswerWhere, reply_to}
use Rattle.zh_office.specs.Sheets.{MayGive, answer_with, sheet_refusal}
use Rattle.zh_office.specs.declared.answer.Answer.{Answer}
use Rattle.zh_office.specs.declared.answer.Answer.TheVariants as answers
use Rattle.zh_office.specs.Exchanges.{Given}
use Rattle.zh_office.specs.Exchanges.Given.{line, text}
use Rattle.zh_office.specs.Load.{load_refusal, load_reply}
use Rattle.zh_office.specs.Office.{MayAnswer, Office}
use Rattle.zh_program.specs.Sheets.{FollowsFrom, IsTie}
use Rattle.zh_program.proofs.TieLemmas.{tied_above, tied_seats}

-- What an answer says about these totals.
pub record IsFair (totals : VoteTotals) (answer : Answer) : Type 0 where
  pub sheet : (sheet : Distribution) (is_final : Bool) → answer ≡ answers.Sheet sheet is_final → FollowsFrom totals sheet
  pub tie : IsTie answer → LeaveNoSeats totals

-- And what gives no command is not answered `stored`.
pub record StoresNone (totals : VoteTotals) (answer : Answer) : Type 0 where
  pub fair : IsFair totals answer
  pub unstored : (number : ℕ) → answer ≢ answers.Reply (Stored number)

-- Every answer that may be given stores nothing.
abbrev pub AllStoreNone : VoteTotals → (Answer → Type 0) → Type 0
AllStoreNone totals May = (answer : Answer) → May answer → StoresNone totals answer

-- A reply that does not report a tie.
fair_reply : (totals : VoteTotals) (reply : Reply) → ¬ IsTie (answers.Reply reply) → IsFair totals (answers.Reply reply)
fair_reply totals reply none = record { sheet = λ sheet is_final is. absurd cc; tie = λ tie. absurd (none tie) }

-- The answer reports a tie, or that something is stored.
abbrev pub IsMarked : Answer → Type 0
IsMarked (answers.Reply (Stored number)) = Unit {0}
IsMarked answer = IsTie answer

tie_marked : (reply : Reply) → IsTie (answers.Reply reply) → IsMarked (answers.Reply reply)
tie_marked (Stored number) tie = absurd tie
tie_marked reply tie = tie

-- A reply that reports neither.
pub plain : (totals : VoteTotals) (reply : Reply) → ¬ IsMarked (answers.Reply reply) → StoresNone totals (answers.Reply reply)
plain totals reply none = record {
  fair = fair_reply totals reply (λ tie. none (tie_marked reply tie));
  unstored = λ number is. none (subst IsMarked (sym is) tt);
}

pub same_fair : (totals : VoteTotals) (a b : Answer) → a ≡ b → StoresNone totals b → StoresNone totals a
same_fair totals a b is fair = subst (StoresNone totals) (sym is) fair

-- A reply to what gives no command, if there is no sheet.
tie_fair : (totals : VoteTotals) (reply : Reply)
    → ((number : ℕ) → answers.Reply reply ≢ answers.Reply (Stored number))
    → LeaveNoSeats totals
    → StoresNone totals (answers.Reply reply)
tie_fair totals reply other none = record { fair = record { sheet = λ sheet is_final is. absurd cc; tie = λ tie. none }; unstored = other }

-- The reply for each fault of a sheet.
fault_fair : (totals : VoteTotals) (fault : SheetFault) → IsMade totals (Err fault) → StoresNone totals (answers.Reply (Refused (sheet_refusal fault)))
fault_fair totals (faults.Refused sheets.TiedSeats) made = tie_fair totals _ (λ number is. absurd cc) (tied_seats totals made.refused.refused.holds)
fault_fair totals (faults.Refused (sheets.NoUpperSeats uppers.Tied)) made = tie_fair totals _ (λ number is. absurd cc) (tied_above totals made.refused.refused.holds)
fault_fair totals (faults.Refused (sheets.TiedLower d g)) made = tie_fair totals _ (λ number is. absurd cc) (made.refused.tied d g refl)
fault_fair totals _ made = plain totals _ (λ no. no)

follows : (totals : VoteTotals) (sheet : Distribution) → IsSheetOf totals sheet → FollowsFrom totals sheet
follows totals sheet is = record { votes = is.votes; meets = is.meets }

sheet_in : Distribution → Answer → Distribution
sheet_in other (answers.Reply reply) = other
sheet_in other (answers.Sheet sheet is_final) = sheet

made_fair : (totals : VoteTotals) (is_final : Bool) (made : Result Distribution SheetFault) → IsMade totals made → StoresNone totals (answer_with is_final made)
made_fair totals is_final (Ok sheet) made = record {
  fair = record {
    sheet = λ other final is.
        let same : sheet ≡ other = cc in subst (FollowsFrom totals) same (follows totals sheet made.sheet);
    tie = λ tie. absurd tie;
  };
  unstored = λ number is. absurd cc;
}
made_fair totals is_final (Err fault) made = fault_fair totals fault made

given_fair : (tally : Tally) (is_final : Bool) → AllStoreNone (totals_of tally) (MayGive tally is_final)
given_fair tally is_final answer (made, is, same) =
    same_fair (totals_of tally) answer (answer_with is_final made) same (made_fair (totals_of tally) is_final made is)

-- A plain reply reports neither a tie nor that something is stored.
plain_unmarked : (reply : Reply) → is_plain reply ≡ true → ¬ IsMarked (answers.Reply reply)
plain_unmarked (Stored number) is marked = absurd (cc)
plain_unmarked (Refused (refusals.Judged reason)) is marked = absurd marked
plain_unmarked (Refused (refusals.Row fault)) is marked = absurd marked
plain_unmarked (Refused refusals.NoBatch) is marked = absurd marked
plain_unmarked (Refused refusals.BatchOpen) is marked = absurd marked
plain_unmarked (Refused refusal) is marked = absurd (cc)
plain_unmarked reply is marked = absurd marked

-- The answers to lines without a command.
answered_fair : (tally : Tally) → HoldsWithoutCommand tally (λ request answer. StoresNone (totals_of tally) answer)
answered_fair tally = record {
  plain = λ request reply is. plain (totals_of tally) reply (plain_unmarked reply is);
  memory = λ row. plain (totals_of tally) _ (λ no. no);
  sheet = given_fair tally false;
  final = given_fair tally true;
}

-- The report of an outcome is not a tie.
outcome_plain : (outcome : Outcome) → ¬ IsTie (answers.Reply (reply_to outcome))
outcome_plain (outcomes.Stored number) = λ no. no
outcome_plain outcomes.Same = λ no. no
outcome_plain (outcomes.Refused reason) = λ no. no
outcome_plain outcomes.Spent = λ no. no
outcome_plain outcomes.Device = λ no. no
outcome_plain outcomes.Broken = λ no. no

where_fair : (broken : Bool) (tally : Tally) (batches : desks.Held) (read : Line)
    → AllStoreNone (totals_of tally) (MayAnswerWhere broken tally batches read)
where_fair true tally batches read answer may = same_fair (totals_of tally) answer _ may (plain (totals_of tally) _ (λ no. no))
where_fair false tally batches read answer may =
    without_command tally (λ request answer. StoresNone (totals_of tally) answer) (answered_fair tally) batches read.desk read.request answer may

-- The reply to a text that gives no command reports neither a tie nor that something is stored.
refused_plain : (fault : LoadFault) → ¬ IsMarked (answers.Reply (Refused (load_refusal fault)))
refused_plain loading.Csv = λ no. no
refused_plain loading.Syntax = λ no. no
refused_plain (loading.Judged reason) = λ no. no
refused_plain (loading.Row fault) = λ no. no
refused_plain loading.Memory = λ no. no
refused_plain loading.Read = λ no. no

load_plain : (broken : Bool) (loaded : Result (List Row) LoadFault) → ¬ IsMarked (answers.Reply (load_reply broken loaded))
load_plain true loaded = λ no. no
load_plain false (Err fault) = refused_plain fault
load_plain false (Ok rows) = λ no. no

pub may_fair : (office : Office) (given : Given) → AllStoreNone (totals_of office.ledger.tally) (MayAnswer office given)
may_fair office (line bytes (Err lines.Syntax)) answer may = same_fair _ answer _ may (plain (totals_of office.ledger.tally) _ (λ no. no))
may_fair office (line bytes (Err lines.Desk)) answer may = same_fair _ answer _ may (plain (totals_of office.ledger.tally) _ (λ no. no))
may_fair office (line bytes (Ok read)) answer may = where_fair office.ledger.store.broken office.ledger.tally office.held read answer may
may_fair office (text bytes loaded) answer may = same_fair _ answer _ may (plain (totals_of office.ledger.tally) _ (load_plain office.ledger.store.broken loaded))

-- An answer is true of the count after it.
pub acts_fair : (old new : OnDisk Ledger) (command : Option Command) (May : Answer → Type 0) (answer : Answer)
    → AllStoreNone (totals_of old.holder.tally) May
    → Acts old command May answer new
    → IsFair (totals_of new.holder.tally) answer
acts_fair old new None May answer fair (may, same) =
    subst (λ (o : OnDisk Ledger). IsFair (totals_of o.holder.tally) answer) (sym same) (fair answer may).fair
acts_fair old new (Some command) May answer fair by =
    let totals = totals_of new.holder.tally in
    subst (IsFair totals) (sym by.reply) (fair_reply totals (reply_to by.outcome) (outcome_plain by.outcome))

-- Only a command is answered `stored`.
pub acts_stored : (old new : OnDisk Ledger) (command : Option Command) (May : Answer → Type 0) (answer : Answer)
    → AllStoreNone (totals_of old.holder.tally) May
    → Acts old command May answer new
    → (number : ℕ) → answer ≡ answers.Reply (Stored number)
    → command ≢ None
acts_stored old new None May answer fair (may, same) number is = absurd ((fair answer may).unstored number is)
acts_stored old new (Some command) May answer fair by number is = λ no. absurd cc
