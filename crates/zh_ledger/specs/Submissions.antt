-- Commands submitted one after the other.
use Rattle.std.specs.Prelude.{◌≡◌, ℕ, ◌+◌, ◌≤◌, List, [], ◌∷◌, ◌++◌, length, take}
use Rattle.zh_disk.specs.Disk.{Moves, Leaves}
use Rattle.zh_disk.specs.History.{History, Call}
use Rattle.zh_returns.specs.Step.{after}
use Rattle.zh_returns.specs.declared.command.Command.{Command}
use Rattle.zh_ledger.specs.declared.outcome.Outcome.{Outcome}
use Rattle.zh_ledger.specs.declared.outcome.Outcome.TheVariants.{Stored, Device}
use Rattle.zh_ledger.specs.Faults.{fails}
use Rattle.zh_ledger.specs.Ledger.{Ledger, MayResult, Becomes}
use Rattle.zh_ledger.specs.Images.{KeepsCommand, ComesToHave, SameOutsideSlots}

-- a ledger, or an office, and what is known of its disk
pub record OnDisk (S : Type 0) : Type 0 where
  pub holder : S
  pub history : History

abbrev pub on_disk : {S : Type 0} → S → History → OnDisk S
on_disk holder history = record { holder = holder; history = history }

-- the same with only the ledger of the holder
abbrev pub of_ledger : {S : Type 0} → (S → Ledger) → OnDisk S → OnDisk Ledger
of_ledger ledger o = on_disk (ledger o.holder) o.history

-- the commands that were accepted, in order, and how many of them were acknowledged
pub record Log : Type 0 where
  pub accepted : List Command
  pub acknowledged : ℕ

abbrev pub nothing : Log
nothing = record { accepted = []; acknowledged = 0 }

abbrev pub followed_by : Log → Log → Log
followed_by a b = record { accepted = a.accepted ++ b.accepted; acknowledged = a.acknowledged + b.acknowledged }

-- what a command with this outcome adds to the log: `Stored` acknowledges it; after `Device`, the disk may or may not hold it
abbrev pub logged : Command → Outcome → Log
logged command (Stored accepted) = record { accepted = command ∷ []; acknowledged = 1 }
logged command Device = record { accepted = command ∷ []; acknowledged = 0 }
logged command outcome = nothing

-- The command has this outcome, leads to this ledger and disk, and adds this to the log.
pub record Submission (old : OnDisk Ledger) (command : Command) (outcome : Outcome) (new : OnDisk Ledger) : Type 0 where
  pub results : MayResult old.holder command outcome
  pub after : Becomes old.holder command outcome new.holder
  pub call : Call fails (KeepsCommand old.holder command) old.history new.history outcome
  pub log : Log
  pub logs : log ≡ logged command outcome

-- commands are submitted one after another, each with its outcome
abbrev pub Submits : OnDisk Ledger → List (Command × Outcome) → Log → OnDisk Ledger → Type 0
Submits old [] log new = (log ≡ nothing) × (new ≡ old)
Submits old (x ∷ xs) log new =
    (mid : OnDisk Ledger) × (others : Log) × (by : Submission old x.0 x.1 mid)
    × (log ≡ followed_by by.log others) × Submits mid xs others new

-- What commands leave. At each moment, an image has a prefix of the accepted commands. At the end, it has at least those that
-- were acknowledged, which are all or all but the last, and the ledger counts exactly these. Nothing outside the two slots
-- changes, whatever the images were.
pub record IsLogged (old : OnDisk Ledger) (log : Log) (new : OnDisk Ledger) : Type 0 where
  pub each_moment : Leaves (ComesToHave old.holder log.accepted 0) old.history.trail new.history.trail
  pub last_moment : Moves (ComesToHave old.holder log.accepted log.acknowledged) old.history.trail.now new.history.trail.now
  pub last : length log.accepted ≤ log.acknowledged + 1
  pub within : log.acknowledged ≤ length log.accepted
  pub count : new.holder.tally ≡ after old.holder.tally (take log.acknowledged log.accepted)
  pub outside : Leaves SameOutsideSlots old.history.trail new.history.trail
