-- The count on a disk, and the outcome of a command that is submitted.
use Rattle.std.specs.Prelude.{◌≡◌, ◌⊎◌, ℕ, ◌+◌, ◌-◌, ◌^◌, ◌==◌, ◌&&◌, ◌||◌, not, nat_le, if◌then◌else◌, Bool, true, false, length}
use Rattle.zh_returns.specs.Tally.{Tally}
use Rattle.zh_returns.specs.Judgement.{judge}
use Rattle.zh_returns.specs.Spelling.{command_spelling}
use Rattle.zh_returns.specs.Step.{step}
use Rattle.zh_returns.specs.declared.command.Command.{Command}
use Rattle.zh_returns.specs.declared.command.Format.{Format}
use Rattle.zh_returns.specs.declared.command.Format.TheVariants.{One, Two}
use Rattle.zh_returns.specs.declared.judgement.Verdict.{Verdict}
use Rattle.zh_returns.specs.declared.judgement.Verdict.TheVariants as verdicts
use Rattle.zh_journal.specs.Pages.{pages_of}
use Rattle.zh_journal.specs.Place.{pages_left}
use Rattle.zh_snapshot.specs.Store as store
use Rattle.zh_ledger.specs.declared.outcome.Outcome.{Outcome}
use Rattle.zh_ledger.specs.declared.outcome.Outcome.TheVariants.{Stored, Same, Refused, Spent, Device, Broken}

-- the count, what is known of the disk on which it is stored, and the format of the slot in use
pub record Ledger : Type 0 where
  pub tally : Tally
  pub store : store.State
  pub format : Format

-- the ledger of a count and its store, in a format
abbrev pub ledger_in : Format → Tally → store.State → Ledger
ledger_in format tally state = record { tally = tally; store = state; format = format }

-- the same in format Two
abbrev pub ledger_of : Tally → store.State → Ledger
ledger_of = ledger_in Two

-- the pages that the record of a command takes
abbrev pub pages_for : Command → ℕ
pages_for command = pages_of (length (command_spelling Two command))

-- the slot in use has enough pages left for the record
abbrev pub has_room : Ledger → Command → Bool
has_room ledger command = nat_le (pages_for command) (pages_left ledger.store.area)

-- too few pages are left, and the generation of the snapshot is the last one
abbrev pub lacks_room : Ledger → Command → Bool
lacks_room ledger command = not (has_room ledger command) && (ledger.store.generation == 2 ^ 64 - 1)

abbrev pub is_one : Format → Bool
is_one One = true
is_one Two = false

-- the slot in use has format One, in which nothing is written any more; or there is no number left for a command, or no room
-- for this one
abbrev pub is_spent : Ledger → Command → Bool
is_spent ledger command = is_one ledger.format || ((ledger.tally.accepted == 2 ^ 64 - 1) || lacks_room ledger command)

-- the command is stored as the next one, or the device failed
abbrev pub StoredOrDevice : ℕ → Outcome → Type 0
StoredOrDevice accepted outcome = (outcome ≡ Stored (accepted + 1)) ⊎ (outcome ≡ Device)

-- the outcomes of a command that is judged acceptable: `Spent` if and only if the ledger is spent for it, and otherwise one of
-- those two
abbrev pub MayStoreWhere : Bool → ℕ → Outcome → Type 0
MayStoreWhere true accepted outcome = outcome ≡ Spent
MayStoreWhere false accepted outcome = StoredOrDevice accepted outcome

abbrev pub MayStore : Ledger → Command → Outcome → Type 0
MayStore ledger command = MayStoreWhere (is_spent ledger command) ledger.tally.accepted

-- the outcomes of a command with this verdict
abbrev pub MayFollow : Verdict → Ledger → Command → Outcome → Type 0
MayFollow verdicts.Accept ledger command outcome = MayStore ledger command outcome
MayFollow verdicts.Same ledger command outcome = outcome ≡ Same
MayFollow (verdicts.Refused reason) ledger command outcome = outcome ≡ Refused reason

-- after a fault of the device, nothing is judged any more
abbrev pub MayResultWhere : Bool → Ledger → Command → Outcome → Type 0
MayResultWhere true ledger command outcome = outcome ≡ Broken
MayResultWhere false ledger command outcome = MayFollow (judge ledger.tally command) ledger command outcome

-- the outcomes that a command can have
abbrev pub MayResult : Ledger → Command → Outcome → Type 0
MayResult ledger = MayResultWhere ledger.store.broken ledger

-- ready to store a command: if too few pages are left, the store has switched
abbrev pub ready : Ledger → Command → Ledger
ready ledger command = record {
  tally = ledger.tally;
  store = if has_room ledger command then ledger.store else store.switched ledger.store;
  format = ledger.format;
}

-- the ledger after this command was stored: its step is made in the count, and its record is in the journal
abbrev pub stored : Ledger → Command → Ledger
stored ledger command = record {
  tally = step ledger.tally command;
  store = store.longer (ready ledger command).store (length (command_spelling Two command));
  format = ledger.format;
}

-- after a fault of the device: the count is unchanged, and the store must be opened again
pub record Breaks (old new : Ledger) : Type 0 where
  pub tally : new.tally ≡ old.tally
  pub broken : new.store.broken ≡ true

-- the ledger after a command with this outcome
abbrev pub Becomes : Ledger → Command → Outcome → Ledger → Type 0
Becomes old command (Stored accepted) new = new ≡ stored old command
Becomes old command Device new = Breaks old new
Becomes old command outcome new = new ≡ old
