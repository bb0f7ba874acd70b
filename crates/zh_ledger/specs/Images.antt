-- What submitted commands leave on an honest disk, moment by moment.
use Rattle.std.specs.Prelude.{◌≡◌, ◌⊎◌, ◌≤◌, ℕ, List, length, take, Result, OnOk}
use Rattle.zh_disk.specs.Disk.{Trail, Moves, Leaves, SameOutside}
use Rattle.zh_snapshot.specs.Layout.{head_length, slots_length}
use Rattle.zh_snapshot.specs.declared.fault.SwitchFault.{SwitchFault}
use Rattle.zh_returns.specs.Tally.{Tally}
use Rattle.zh_returns.specs.Step.{step, after}
use Rattle.zh_returns.specs.declared.command.Command.{Command}
use Rattle.zh_ledger.specs.declared.outcome.Outcome.{Outcome}
use Rattle.zh_ledger.specs.declared.outcome.Outcome.TheVariants.{Stored, Device}
use Rattle.zh_ledger.specs.Ledger.{Ledger, ready, stored}
use Rattle.zh_ledger.specs.Stands.{Holds, HoldsLedger}

-- an image that the ledger knows comes to hold the count from before the command, or from after it
abbrev pub KeepsOrSteps : Ledger → Command → List ℕ → List ℕ → Type 0
KeepsOrSteps s command old new = HoldsLedger s old → Holds s.tally new ⊎ Holds (step s.tally command) new

-- an image that the ledger knows becomes one that it knows after the command is stored
abbrev pub Stores : Ledger → Command → List ℕ → List ℕ → Type 0
Stores s command old new = HoldsLedger s old → HoldsLedger (stored s command) new

-- an image that the ledger knows still holds its count
abbrev pub Keeps : Ledger → List ℕ → List ℕ → Type 0
Keeps s old new = HoldsLedger s old → Holds s.tally new

-- an image that the ledger knows becomes one that it knows after it was made ready for the command
abbrev pub Readies : Ledger → Command → List ℕ → List ℕ → Type 0
Readies s command old new = HoldsLedger s old → HoldsLedger (ready s command) new

-- At each moment, an image has the whole command or nothing of it. After `Stored`, it has the command. After every outcome but
-- `Stored` and `Device`, no call wrote or synced the disk.
abbrev pub LeavesBy : Ledger → Command → Outcome → Trail → Trail → Type 0
LeavesBy s command (Stored accepted) old new =
    Leaves (KeepsOrSteps s command) old new × Moves (Stores s command) old.now new.now
LeavesBy s command Device old new = Leaves (KeepsOrSteps s command) old new
LeavesBy s command outcome old new = new ≡ old

-- nothing outside the two slots changes: not the disk gate, the header, the set-up bytes, or what is between them
abbrev pub SameOutsideSlots : List ℕ → List ℕ → Type 0
SameOutsideSlots = SameOutside head_length slots_length

-- What a command with this outcome does to the disk.
pub record KeepsCommand (s : Ledger) (command : Command) (outcome : Outcome) (old new : Trail) : Type 0 where
  pub leaves : LeavesBy s command outcome old new
  -- whatever the images were
  pub outside : Leaves SameOutsideSlots old new

-- What making room for a command does: if too few pages are left, the store switches.
pub record MakesRoom (s : Ledger) (command : Command) (result : Result ℕ SwitchFault) (old new : Trail) : Type 0 where
  pub moments : Leaves (Keeps s) old new
  pub outside : Leaves SameOutsideSlots old new
  pub done : OnOk result (Moves (Readies s command) old.now new.now)

-- a clean image that represents the count after a prefix of these commands, with at least `least` of them
pub record HasSome (tally : Tally) (commands : List Command) (least : ℕ) (c : List ℕ) : Type 0 where
  pub number : ℕ
  pub at_least : least ≤ number
  pub within : number ≤ length commands
  pub holds : Holds (after tally (take number commands)) c

-- an image that the ledger knows comes to have a prefix of these commands, with at least `least` of them
abbrev pub ComesToHave : Ledger → List Command → ℕ → List ℕ → List ℕ → Type 0
ComesToHave s commands least old new = HoldsLedger s old → HasSome s.tally commands least new
