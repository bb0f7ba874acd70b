-- What a store knows of its disk, and what its calls leave on it.
use Rattle.std.specs.Prelude.{◌≡◌, ◌⊎◌, ◌+◌, ◌↔◌, ℕ, Bool, true, IsTrue, List, length}
use Rattle.zh_disk.specs.Disk.{SameOutside}
use Rattle.zh_journal.specs.Place.{Place, grown}
use Rattle.zh_journal.specs.Pages.{area_length, pages_of}
use Rattle.zh_snapshot.specs.declared.layout.Slot.{Slot}
use Rattle.zh_snapshot.specs.Layout.{other, slot_length, slot_at, journal_at}
use Rattle.zh_snapshot.specs.Slots.{IsOpen, IsInUse}
use Rattle.zh_snapshot.specs.Image.{Content, IsFramed, IsClean, with_record, with_snapshot}

-- the length of the set-up bytes, the slot in use and its generation, whether the other slot's gate is open, where the
-- records end, and whether a call that writes met a device fault
pub record State : Type 0 where
  pub setup_length : ℕ
  pub slot : Slot
  pub generation : ℕ
  pub other_open : Bool
  pub area : Place
  pub broken : Bool

-- what the store knows is true of an image with this content, whose records end at page j
pub record Fits (s : State) (x : Content) (j : ℕ) (c : List ℕ) : Type 0 where
  pub setup : length x.setup ≡ s.setup_length
  pub generation : x.generation ≡ s.generation
  pub end : j ≡ s.area.end
  pub count : length x.records ≡ s.area.count
  pub slot : IsInUse s.slot c
  pub other_slot : IsOpen (other s.slot) c ↔ IsTrue s.other_open

-- the state after one more record, whose payload has this length
abbrev pub longer : State → ℕ → State
longer s len = record s { area = grown s.area len }

-- the state after a switch to the other slot
abbrev pub switched : State → State
switched s = record s {
  slot = other s.slot;
  generation = s.generation + 1;
  other_open = true;
  area = record { base = journal_at (other s.slot); end = 0; count = 0 };
}

-- the image was these bytes, and still is
abbrev pub Settles : List ℕ → List ℕ → List ℕ → Type 0
Settles bytes old new = (old ≡ bytes) × (new ≡ bytes)

-- a clean image that fits becomes a clean image with the record r added, which fits too
abbrev pub StoreAdds : State → List ℕ → List ℕ → List ℕ → Type 0
StoreAdds s r old new =
    (x : Content) (j : ℕ) → IsClean x j old → Fits s x j old
    → IsClean (with_record x r) (j + pages_of (length r)) new
    × Fits (longer s (length r)) (with_record x r) (j + pages_of (length r)) new

-- a clean image that fits stays clean, with the record r or without it; nothing outside the journal changes, whatever the image
pub record StoreAddsOrNot (s : State) (r old new : List ℕ) : Type 0 where
  pub around : SameOutside (journal_at s.slot) area_length old new
  pub clean : (x : Content) (j : ℕ) → IsClean x j old → Fits s x j old
      → IsClean x j new ⊎ IsClean (with_record x r) (j + pages_of (length r)) new

-- an image that fits becomes a clean image with this snapshot and no records, one generation later, which fits too
abbrev pub StoreSwitches : State → List ℕ → List ℕ → List ℕ → Type 0
StoreSwitches s payload old new =
    (x : Content) (j : ℕ) → IsFramed x j old → Fits s x j old
    → IsClean (with_snapshot x payload) 0 new × Fits (switched s) (with_snapshot x payload) 0 new

-- an image that fits becomes what `StoreSwitches` says, or it keeps its content and is clean if it was; nothing outside the other
-- slot changes, whatever the image
pub record StoreSwitchesOrNot (s : State) (payload old new : List ℕ) : Type 0 where
  pub around : SameOutside (slot_at (other s.slot)) slot_length old new
  pub framed : (x : Content) (j : ℕ) → IsFramed x j old → Fits s x j old
      → IsFramed x j new ⊎ IsClean (with_snapshot x payload) 0 new
  pub clean : (x : Content) (j : ℕ) → IsClean x j old → Fits s x j old
      → IsClean x j new ⊎ IsClean (with_snapshot x payload) 0 new
