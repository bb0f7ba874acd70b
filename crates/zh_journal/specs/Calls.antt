-- What the calls of an area do to the disk.
use Rattle.std.specs.Prelude.{◌≡◌, ◌<◌, ◌≤◌, ◌⊎◌, ℕ, ◌+◌, ◌*◌, Result, Some, None, IfOk, OnOk, IsErrOf}
use Rattle.std.specs.Prelude.{List, [], ◌∷◌, length, take, drop, slice_get, slice_index}
use Rattle.zh_disk.specs.declared.disk.DiskFault.{DiskFault}
use Rattle.zh_disk.specs.Disk.{Trail, SameOutside, Leaves, Lands, settled, splice}
use Rattle.zh_journal.specs.declared.fault.AppendFault.{AppendFault}
use Rattle.zh_journal.specs.declared.fault.OpenFault.{OpenFault}
use Rattle.zh_journal.specs.declared.fault.OpenFault.TheVariants.{Damaged}
use Rattle.zh_journal.specs.Gate.{FromBytes}
use Rattle.zh_journal.specs.Pages.{Frames, ReadsRecords, IsRecord, IsStaged, HasSize, IsWritten, SameButBodies}
use Rattle.zh_journal.specs.Pages.{AddsOrNot, Adds, IsCleared, area_length, pages_of}
use Rattle.zh_journal.specs.Place.{Place, Rest}
use Rattle.zh_journal.specs.Records.{records_of}

-- the buffer contains the part of the payload on page i of the record at this place
abbrev pub IsOnPage : ℕ → ℕ → ℕ → List ℕ → List ℕ → Type 0
IsOnPage i at len bytes buffer =
    (k : ℕ) → 255 * i ≤ k + 3 → k + 3 < 255 * i + 255 → k < len → slice_index buffer k ≡ slice_index bytes (at + 4 + k + i)

-- the buffer begins with the payload of the record at this place, if that has this length
abbrev pub HasPayload : ℕ → ℕ → List ℕ → List ℕ → Type 0
HasPayload at len bytes buffer = (r : List ℕ) → IsStaged bytes at r → length r ≡ len → take len buffer ≡ r

-- If there is a record at this place, within these pages, `len` is its length and the buffer begins with its payload.
-- If `len` is not 0, there is a record there, and its payload is the first `len` bytes of the buffer.
pub record GivesRecord (at left : ℕ) (bytes buffer : List ℕ) (len : ℕ) : Type 0 where
  pub read : (r : List ℕ) → slice_index bytes at ≡ 165 → IsStaged bytes at r → HasSize r → pages_of (length r) ≤ left
      → (len ≡ length r) × (take len buffer ≡ r)
  pub stands : 1 ≤ len → (slice_index bytes at ≡ 165) × IsStaged bytes at (take len buffer) × HasSize (take len buffer)

-- Record i of those that a reader finds begins at this page. If the page is inside the area, i records come before it.
pub record FindsPage (base i : ℕ) (bytes : List ℕ) (page : ℕ) : Type 0 where
  pub found : (rs : List (List ℕ)) (j : ℕ) → ReadsRecords base bytes rs j → i < length rs → Frames base bytes page (drop i rs) j
  pub stands : page < 1024 → (rs : List (List ℕ)) × Frames base bytes 0 rs page × (length rs ≡ i)

-- The payload of record i of the area. It is empty if the disk no longer has a record i; a record's payload is not empty.
pub record GivesPayload (base i : ℕ) (bytes lent : List ℕ) : Type 0 where
  pub payload : (rs : List (List ℕ)) (j : ℕ) → ReadsRecords base bytes rs j → i < length rs → slice_get rs i ≡ Some lent
  pub found : (lent ≡ []) ⊎ IsRecord base i bytes lent

-- What opening an area finds in these bytes.
pub record FindsArea (base : ℕ) (bytes : List ℕ) (answer : Result (Place × Rest) OpenFault) : Type 0 where
  -- there are records with the end and the number in the answer; by `records_of` there is no other list of them
  pub found : IfOk answer (λ opened. (rs : List (List ℕ)) × ReadsRecords base bytes rs opened.0.end × (length rs ≡ opened.0.count))
  pub records : IfOk answer (λ opened. (rs : List (List ℕ)) × (records_of base bytes ≡ Some rs) × (length rs ≡ opened.0.count))
  -- the reader has all of these records left
  pub left : (rs : List (List ℕ)) (j : ℕ) → ReadsRecords base bytes rs j
      → IfOk answer (λ opened. Frames 0 opened.1.pages opened.1.page rs opened.1.end)
  -- `Damaged` is returned only if a head breaks a rule; by `records`, `Ok` is returned only if none does
  pub damaged : IsErrOf answer Damaged → records_of base bytes ≡ None

-- the trail is n moments longer
abbrev pub IsLater : ℕ → Trail → Trail → Type 0
IsLater n old new = length new.past ≡ length old.past + n

-- A record is written, except for its gates, with one write for each page.
pub record Stages (at : ℕ) (r : List ℕ) (result : Result (Unit {0}) DiskFault) (old new : Trail) : Type 0 where
  pub moments : Leaves (SameButBodies at (pages_of (length r))) old new
  pub done : OnOk result (IsWritten new.now.bytes at r)
  pub calls : OnOk result (IsLater (pages_of (length r)) old new)

-- A gate is opened in three calls: what a read gave before is on the disk before the gate is open, and the open gate is on
-- the disk at the end.
pub record OpensGate (gate : ℕ) (result : Result (Unit {0}) DiskFault) (old new : Trail) : Type 0 where
  pub moments : Leaves (FromBytes gate old) old new
  pub done : OnOk result (new.now ≡ settled (splice gate (165 ∷ []) old.now.bytes))
  pub calls : OnOk result (IsLater 3 old new)

-- A record is appended.
pub record Appends (p : Place) (r : List ℕ) (result : Result (Unit {0}) AppendFault) (old new : Trail) : Type 0 where
  -- each image at each moment is an image from the start, with the record or without it
  pub moments : Leaves (AddsOrNot p.base p.end r) old new
  -- nothing changes except the record's pages, whatever the images at the start were
  pub outside : Leaves (SameOutside (p.base + 256 * p.end) (256 * pages_of (length r))) old new
  pub done : OnOk result (Lands (Adds p.base p.end r) old.now new.now)
  -- one write for each page, and the three calls that open the gate
  pub calls : OnOk result (IsLater (pages_of (length r) + 3) old new)

-- An area is cleared in one write. Until the caller has synced, the disk can hold anything there.
pub record Clears {T : Type 0} (base : ℕ) (result : Result T DiskFault) (old new : Trail) : Type 0 where
  pub moments : Leaves (SameOutside base area_length) old new
  pub done : OnOk result (IsCleared base old.now.bytes new.now.bytes)
  pub calls : OnOk result (IsLater 1 old new)
