-- What the calls of a store do to the disk.
use Rattle.std.specs.Prelude.{◌≡◌, ◌≢◌, ◌≤◌, ◌↔◌, ℕ, ◌+◌, ◌-◌, ◌*◌, Bool, IsTrue, List, [], length}
use Rattle.std.specs.Prelude.{slice_index, slice_range, Result, Some, None, IfOk, OnOk, IsErrOf}
use Rattle.zh_disk.specs.declared.disk.DiskFault.{DiskFault}
use Rattle.zh_disk.specs.Disk.{Trail, Leaves, Moves, Lands, Changes, SameOutside, disk_length, settled}
use Rattle.zh_journal.specs.Calls.{IsLater}
use Rattle.zh_journal.specs.Pages.{Frames, pages_of}
use Rattle.zh_journal.specs.Place.{Rest}
use Rattle.zh_snapshot.specs.declared.fault.AppendFault.{AppendFault}
use Rattle.zh_snapshot.specs.declared.fault.FormatFault.{FormatFault}
use Rattle.zh_snapshot.specs.declared.fault.OpenFault.{OpenFault}
use Rattle.zh_snapshot.specs.declared.fault.OpenFault.TheVariants.{Blank, Damaged}
use Rattle.zh_snapshot.specs.declared.fault.SwitchFault.{SwitchFault}
use Rattle.zh_snapshot.specs.declared.layout.Slot.{Slot}
use Rattle.zh_snapshot.specs.declared.layout.TheConstants.{SETUP_LIMIT}
use Rattle.zh_snapshot.specs.Layout.{slot_length, generation_at}
use Rattle.zh_snapshot.specs.Image.{Content, IsBlank, IsFramed, content_of, header_bytes}
use Rattle.zh_snapshot.specs.Slots.{Closes, IsClosed, HasNew}
use Rattle.zh_snapshot.specs.Store.{State, Fits, Settles, StoreAdds, StoreAddsOrNot, StoreSwitches, StoreSwitchesOrNot}
use Rattle.zh_snapshot.specs.Format.{KeptOrBlank, Formats, IsFormatted}
use Rattle.zh_snapshot.specs.Parts.{HasParts, IsEmptied}

-- What reading the head of a disk finds: the length of the set-up bytes, if the disk's gate is open and the header is valid.
pub record FindsHeader (bytes : List ℕ) (answer : Result ℕ OpenFault) : Type 0 where
  pub right : IfOk answer (λ len. (slice_index bytes 0 ≡ 165) × (len ≤ SETUP_LIMIT) × (slice_range bytes 1 15 ≡ header_bytes len))
  pub blank : IsErrOf answer Blank → IsBlank bytes
  pub damaged : IsErrOf answer Damaged
      → (slice_index bytes 0 ≡ 165) × ((len : ℕ) → len ≤ SETUP_LIMIT → slice_range bytes 1 15 ≢ header_bytes len)

-- What reading a store finds in these bytes.
pub record ReadsStore (bytes : List ℕ) (answer : Result (State × Rest) OpenFault) : Type 0 where
  pub framed : IfOk answer (λ opened. (x : Content) × (j : ℕ) × IsFramed x j bytes × Fits opened.0 x j bytes)
  -- the reader has all records left
  pub left : (x : Content) (j : ℕ) → IsFramed x j bytes
      → IfOk answer (λ opened. Frames 0 opened.1.pages opened.1.page x.records opened.1.end)
  pub blank : IsErrOf answer Blank → IsBlank bytes
  -- `Damaged` is returned only if the disk's gate is open and the bytes have no content
  pub damaged : IsErrOf answer Damaged → (IsBlank bytes → ⊥) × ((x : Content) (j : ℕ) → IsFramed x j bytes → ⊥)

-- The same, and the content of these bytes as the function `content_of` gives it: a blank or damaged disk has no content.
pub record FindsStore (bytes : List ℕ) (answer : Result (State × Rest) OpenFault) : Type 0 where
  pub read : ReadsStore bytes answer
  pub content : IfOk answer (λ opened. (x : Content) × (content_of bytes ≡ Some x) × (length x.records ≡ opened.0.area.count))
  pub blank : IsErrOf answer Blank → content_of bytes ≡ None
  pub damaged : IsErrOf answer Damaged → content_of bytes ≡ None

-- A store is opened: from the sync on, the only image is what a read gave at the start.
pub record OpensStore (answer : Result (State × Rest) OpenFault) (old new : Trail) : Type 0 where
  pub moments : Leaves (Settles old.now.bytes) old new
  pub settled : OnOk answer (new.now ≡ settled old.now.bytes)
  pub found : FindsStore old.now.bytes answer

-- the answer is whether these are the set-up bytes of the content
abbrev pub ComparesSetup : ℕ → List ℕ → List ℕ → Result Bool DiskFault → Type 0
ComparesSetup size setup bytes answer =
    (x : Content) (j : ℕ) → IsFramed x j bytes → length x.setup ≡ size → IfOk answer (λ equal. IsTrue equal ↔ (x.setup ≡ setup))

-- A slot's gate is closed if it is open.
abbrev pub ClosesSlot : Slot → Bool → Result (Unit {0}) DiskFault → Trail → Trail → Type 0
ClosesSlot slot is_open = Changes (Closes slot is_open) (Moves (IsClosed slot is_open))

-- Everything after a slot's gate is written.
abbrev pub FillsSlot : {T : Type 0} → Slot → ℕ → List ℕ → Result T DiskFault → Trail → Trail → Type 0
FillsSlot slot generation payload =
    Changes (SameOutside (generation_at slot) (slot_length - 1)) (λ old new. HasNew slot generation payload new.bytes)

-- A record is appended.
pub record StoreAppends (s : State) (r : List ℕ) (result : Result (Unit {0}) AppendFault) (old new : Trail) : Type 0 where
  -- each image at each moment is an image from the start, with the record or without it
  pub moments : Leaves (StoreAddsOrNot s r) old new
  -- nothing changes except the record's pages, whatever the images at the start were
  pub pages : Leaves (SameOutside (s.area.base + 256 * s.area.end) (256 * pages_of (length r))) old new
  pub done : OnOk result (Lands (StoreAdds s r) old.now new.now)
  -- one write for each page, and the three calls that open the gate
  pub calls : OnOk result (IsLater (pages_of (length r) + 3) old new)

-- The slots are switched: each image at each moment has the content from the start or the new snapshot.
abbrev pub StoreSwitch : State → List ℕ → Result (Unit {0}) SwitchFault → Trail → Trail → Type 0
StoreSwitch s payload = Changes (StoreSwitchesOrNot s payload) (Lands (StoreSwitches s payload))

-- The disk's gate is closed if it is open.
abbrev pub ClosesDisk : Result (Unit {0}) DiskFault → Trail → Trail → Type 0
ClosesDisk = Changes KeptOrBlank (λ old new. (new.pending ≡ []) × IsBlank new.bytes)

-- The header, the set-up bytes, the first slot's head and its snapshot are written.
abbrev pub WritesParts : List ℕ → List ℕ → Result (Unit {0}) DiskFault → Trail → Trail → Type 0
WritesParts setup first = Changes (SameOutside 1 (disk_length - 1)) (λ old new. HasParts setup first new.bytes)

-- The first slot's journal and the second slot's head are overwritten with zeros.
abbrev pub EmptiesSlots : Result (Unit {0}) DiskFault → Trail → Trail → Type 0
EmptiesSlots = Changes (SameOutside 1 (disk_length - 1)) (λ old new. IsEmptied old.bytes new.bytes)

-- A disk is formatted.
pub record FormatsStore (setup first : List ℕ) (result : Result (Unit {0}) FormatFault) (old new : Trail) : Type 0 where
  pub moments : Formats setup first old new
  pub done : OnOk result ((new.now.pending ≡ []) × IsFormatted setup first new.now.bytes)
