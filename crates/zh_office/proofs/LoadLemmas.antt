-- The effect of loading a text.
use Rattle.std.proofs.Common.{◌≡◌, ◌≤◌, ◌∙◌, ℕ, Bool, true, false, List, [], ◌∷◌, length, Option, Result, Ok, Err, refl, sym, subst, arith}
use Rattle.zh_returns.specs.declared.command.Command.TheVariants as commands
use Rattle.zh_returns.specs.declared.row.Row.{Row}
use Rattle.zh_commands.specs.declared.replies.Reply.{Reply}
use Rattle.zh_commands.specs.declared.replies.Reply.TheVariants.{Same, Refused}
use Rattle.zh_commands.specs.declared.replies.Refusal.TheVariants as refusals
use Rattle.zh_csv.specs.Load.{LoadsFrom}
use Rattle.zh_csv.specs.declared.batch_reader.LoadFault.{LoadFault}
use Rattle.zh_csv.specs.declared.batch_reader.LoadFault.TheVariants as faults
use Rattle.zh_ledger.specs.Submissions.{OnDisk}
use Rattle.zh_office.specs.Requests.{ReportsOutcome, Acts}
use Rattle.zh_office.specs.declared.answer.Answer.{Answer}
use Rattle.zh_office.specs.declared.answer.Answer.TheVariants as answers
use Rattle.zh_office.specs.Load.{command_loaded, load_reply, load_refusal}
use Rattle.zh_office.specs.Office.{Office, its_ledger}
use Rattle.zh_office.specs.Runs.{LoadTurn}

-- what a loading does to the ledger, by whether the device failed before
abbrev StoresWhere : Bool → OnDisk Office → Result (List Row) LoadFault → Answer → OnDisk Office → Type 0
StoresWhere broken old loaded answer new = Acts (its_ledger old) (command_loaded broken loaded) (λ a. a ≡ answers.Reply (load_reply broken loaded)) answer (its_ledger new)

-- a text that is read like this
read_turn : (old new : OnDisk Office) (bytes : Option (List ℕ)) (failed : Bool) (loaded : Result (List Row) LoadFault) (reply : Reply) (broken : Bool)
    → (old.holder.ledger.store.broken ≡ false → LoadsFrom old.holder.ledger.tally.canton bytes failed loaded) → old.holder.ledger.store.broken ≡ broken
    → StoresWhere broken old loaded (answers.Reply reply) new → new.holder.held ≡ old.holder.held → LoadTurn old bytes failed reply new
read_turn old new bytes failed loaded reply broken loads is acts held = record {
  loaded = loaded;
  loads = loads;
  turn = record {
    reads = λ whole. (failed, loads whole);
    command = refl;
    acts = subst (λ (b : Bool). StoresWhere b old loaded (answers.Reply reply) new) (sym is) acts;
    held = held;
    count = refl;
    disk = refl;
  };
}

-- the device had failed before
pub broken_turn : (old : OnDisk Office) (text : Option (List ℕ)) (failed : Bool) → old.holder.ledger.store.broken ≡ true → LoadTurn old text failed (Refused refusals.ReopenDisk) old
broken_turn old text failed broken =
    read_turn old old text failed (Err faults.Csv) (Refused refusals.ReopenDisk) true (λ whole. let wrong : true ≡ false = sym broken ∙ whole in cc wrong) broken (refl, refl) refl

-- the text is refused
pub refused_turn : (old : OnDisk Office) (text : Option (List ℕ)) (failed : Bool) (fault : LoadFault) → old.holder.ledger.store.broken ≡ false
    → LoadsFrom old.holder.ledger.tally.canton text failed (Err fault) → LoadTurn old text failed (Refused (load_refusal fault)) old
refused_turn old text failed fault whole loads =
    read_turn old old text failed (Err fault) (Refused (load_refusal fault)) false (λ _. loads) whole (refl, refl) refl

-- the text has no rows
pub empty_turn : (old : OnDisk Office) (text : Option (List ℕ)) (failed : Bool) (rows : List Row) → old.holder.ledger.store.broken ≡ false → length rows ≡ 0
    → LoadsFrom old.holder.ledger.tally.canton text failed (Ok rows) → LoadTurn old text failed Same old
empty_turn old text failed [] whole none loads = read_turn old old text failed (Ok []) Same false (λ _. loads) whole (refl, refl) refl
empty_turn old text failed (row ∷ rows) whole none loads = absurd (omega arith)

-- the rows are submitted
pub submitted_turn : (old new : OnDisk Office) (text : Option (List ℕ)) (failed : Bool) (rows : List Row) (reply : Reply) → old.holder.ledger.store.broken ≡ false → 1 ≤ length rows
    → new.holder.held ≡ old.holder.held → LoadsFrom old.holder.ledger.tally.canton text failed (Ok rows)
    → ReportsOutcome (its_ledger old) (commands.Batch 0 rows) (answers.Reply reply) (its_ledger new) → LoadTurn old text failed reply new
submitted_turn old new text failed [] reply whole some held loads by = absurd (omega arith)
submitted_turn old new text failed (row ∷ rows) reply whole some held loads by = read_turn old new text failed (Ok (row ∷ rows)) reply false (λ _. loads) whole by held
