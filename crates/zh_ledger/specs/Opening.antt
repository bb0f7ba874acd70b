-- What is left by a call that formats a disk or opens the ledger on it.
use Rattle.std.specs.Prelude.{◌≡◌, ◌≢◌, ◌-◌, ◌^◌, ◌⊎◌, ℕ, List, [], Result, IfErr, IfOk, IsErrOf, OnOk}
use Rattle.zh_disk.specs.declared.disk.DiskFault.{DiskFault}
use Rattle.zh_disk.specs.Disk.{Moment, Trail, IsImage, Leaves, SameOutside}
use Rattle.zh_disk.specs.History.{History, Call}
use Rattle.zh_districts.specs.Canton.{Canton}
use Rattle.zh_districts.specs.Spelling.{setup_spelling}
use Rattle.zh_journal.specs.Place.{Rest}
use Rattle.zh_returns.specs.declared.command.Format.{Format}
use Rattle.zh_returns.specs.declared.command.Format.TheVariants.{One, Two}
use Rattle.zh_returns.specs.Payload.{payload_spelling}
use Rattle.zh_returns.specs.Limits.{IsTally}
use Rattle.zh_returns.specs.Tally.{Tally, empty}
use Rattle.zh_snapshot.specs.Image.{Content, IsBlank, IsFramed, IsClean, with_snapshot}
use Rattle.zh_snapshot.specs.Layout.{other, slot_at, slot_length}
use Rattle.zh_snapshot.specs.Slots.{IsInUse}
use Rattle.zh_snapshot.specs.declared.layout.Slot.{Slot}
use Rattle.zh_snapshot.specs.Format.{Formats, IsFormatted}
use Rattle.zh_snapshot.specs.Store.{State, Settles}
use Rattle.zh_snapshot.specs.declared.fault.FormatFault.{FormatFault}
use Rattle.zh_ledger.specs.Faults.{open_fails}
use Rattle.zh_ledger.specs.Ledger.{ledger_in}
use Rattle.zh_ledger.specs.Ledger.{Ledger}
use Rattle.zh_ledger.specs.Opened.{IsNew, IsReady, HoldsLedgerFramed, IsOpened, Differs, IsDamaged, AwaitsReplay, IsWrong}
use Rattle.zh_ledger.specs.Stands.{HoldsFramed, StandsFor}
use Rattle.zh_ledger.specs.declared.opening.OpenFault.{OpenFault}
use Rattle.zh_ledger.specs.declared.opening.OpenFault.TheVariants as faults

-- a clean image of this content one generation later, with this count in format Two as its snapshot and no records
abbrev pub IsMigrated : Content → Tally → List ℕ → Type 0
IsMigrated content tally c = IsClean (with_snapshot content (payload_spelling Two tally)) 0 c

-- What a migration may make of bytes that represent a count in format One, if their generation is not the last. Nothing outside
-- the other slot changes. The content stays the same or becomes that count in format Two. Clean bytes stay clean.
pub record Migrates (canton : Canton) (bytes new : List ℕ) : Type 0 where
  pub content : Content
  pub end : ℕ
  pub tally : Tally
  pub slot : Slot
  pub framed : IsFramed content end bytes
  pub in_use : IsInUse slot bytes
  pub own : tally.canton ≡ canton
  pub stands : StandsFor One content tally
  pub limits : IsTally tally
  pub generation : content.generation ≢ 2 ^ 64 - 1
  pub outside : SameOutside (slot_at (other slot)) slot_length bytes new
  pub kept : IsFramed content end new ⊎ IsMigrated content tally new
  pub clean : IsClean content end bytes → IsClean content end new ⊎ IsMigrated content tally new

-- what an opening may leave of an image from its start, if a read gave these bytes: only those bytes, or what a migration makes
-- of them
abbrev pub MayLeave : Canton → List ℕ → List ℕ → List ℕ → Type 0
MayLeave canton bytes old new = (old ≡ bytes) × ((new ≡ bytes) ⊎ Migrates canton bytes new)

-- what a fault of an opening says about the bytes that were read; memory and the device say nothing about them
abbrev pub IsCause : Canton → List ℕ → OpenFault → Type 0
IsCause canton bytes faults.Blank = IsBlank bytes
IsCause canton bytes faults.SetupDiffers = Differs canton bytes
IsCause canton bytes faults.Damaged = IsDamaged canton bytes
IsCause canton bytes fault = Unit {0}

-- the ledger holds what these bytes represented; now nothing is pending, and the bytes on the disk open to this ledger
pub record IsOpenedFrom (canton : Canton) (bytes : List ℕ) (now : Moment) (ledger : Ledger) : Type 0 where
  pub stood : HoldsFramed ledger.tally bytes
  pub pending : now.pending ≡ []
  pub opened : IsOpened canton now.bytes ledger

-- at this moment nothing is pending, and the bytes are those of this ledger
pub record IsAtRest (ledger : Ledger) (now : Moment) : Type 0 where
  pub pending : now.pending ≡ []
  pub found : HoldsLedgerFramed ledger now.bytes

-- What is read from these bytes of the count of a set-up, after a store and its reader were opened there: the count and its
-- format.
pub record ReadsCount (s : State) (rest : Rest) (canton : Canton) (tally : Tally) (bytes : List ℕ)
    (answer : Result Format OpenFault) : Type 0 where
  pub found : (x : Content) → AwaitsReplay s rest x bytes → IfOk answer (λ format. StandsFor format x tally)
  pub differs : IsErrOf answer faults.SetupDiffers
      → (x : Content) → AwaitsReplay s rest x bytes → x.setup ≢ setup_spelling canton
  pub damaged : IsErrOf answer faults.Damaged → (x : Content) → AwaitsReplay s rest x bytes → IsWrong canton x

-- If nothing is pending and the bytes are those of this ledger: at each moment only those bytes are left, or what a migration
-- makes of them. At the end they are those of the ledger with this store, in the format that is returned.
pub record MigratesFrom (s : Ledger) (store : State) (result : Result Format DiskFault) (old new : Trail) : Type 0 where
  pub moments : IsAtRest s old.now → Leaves (MayLeave s.tally.canton old.now.bytes) old new
  pub rests : IsAtRest s old.now → IfOk result (λ format. IsAtRest (ledger_in format s.tally store) new.now)

-- An opening takes an honest disk from one trail to the other, with this result.
pub record Opens (canton : Canton) (result : Result Ledger OpenFault) (old new : Trail) : Type 0 where
  pub moments : Leaves (MayLeave canton old.now.bytes) old new
  pub opened : IfOk result (IsOpenedFrom canton old.now.bytes new.now)
  pub refused : IfErr result (IsCause canton old.now.bytes)
  -- an opening that ends with a fault other than `Device` migrates nothing; by `moments`, neither does one of a slot in format
  -- Two or at the last generation
  pub unchanged : IfErr result (λ fault. (fault ≡ faults.Device → ⊥) → Leaves (Settles old.now.bytes) old new)

-- An opening takes a disk from one history to the other, with this result.
pub record Opening (canton : Canton) (old new : History) (result : Result Ledger OpenFault) : Type 0 where
  pub ready : IfOk result (IsReady canton)
  pub call : Call open_fails (Opens canton) old new result

-- A formatting takes an honest disk from one trail to the other, with this result.
pub record MakesNew (canton : Canton) (result : Result (Unit {0}) FormatFault) (old new : Trail) : Type 0 where
  -- the disk gate is closed, then the disk is written, and then the gate is opened: docs/FORMATS.md lists the moments
  pub moments : Formats (setup_spelling canton) (payload_spelling Two (empty canton)) old new
  pub formatted : OnOk result ((c : List ℕ) → IsImage new.now c → IsNew canton c)
  -- the first generation, with zeros in the journal, so that nothing of an older count is valid any more
  pub fresh : OnOk result (IsFormatted (setup_spelling canton) (payload_spelling Two (empty canton)) new.now.bytes)
  pub settled : OnOk result (new.now.pending ≡ [])
