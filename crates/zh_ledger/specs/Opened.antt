-- What formatting leaves, and what opening finds.
use Rattle.std.specs.Prelude.{◌≡◌, ◌≢◌, ◌-◌, ◌^◌, ℕ, List, false}
use Rattle.zh_districts.specs.Canton.{Canton}
use Rattle.zh_districts.specs.Spelling.{setup_spelling}
use Rattle.zh_returns.specs.declared.command.Format.{Format}
use Rattle.zh_returns.specs.declared.command.Format.TheVariants.{One}
use Rattle.zh_returns.specs.Tally.{Tally, empty}
use Rattle.zh_snapshot.specs.Image.{Content, IsBlank, IsFramed}
use Rattle.zh_journal.specs.Pages.{Frames}
use Rattle.zh_journal.specs.Place.{Rest}
use Rattle.zh_snapshot.specs.Store.{State, Fits}
use Rattle.zh_ledger.specs.Ledger.{Ledger}
use Rattle.zh_ledger.specs.Stands.{StandsFor, Holds}

-- a clean image that represents the empty count
abbrev pub IsNew : Canton → List ℕ → Type 0
IsNew canton c = Holds (empty canton) c

-- a ledger of this set-up that has met no fault of the device; its slot has format One only at the last generation
pub record IsReady (canton : Canton) (s : Ledger) : Type 0 where
  pub set_up : s.tally.canton ≡ canton
  pub whole : s.store.broken ≡ false
  pub last : s.format ≡ One → s.store.generation ≡ 2 ^ 64 - 1

-- these bytes of a disk are framed, with a content that the ledger's store knows and that represents the ledger's count
pub record HoldsLedgerFramed (s : Ledger) (bytes : List ℕ) : Type 0 where
  pub content : Content
  pub end : ℕ
  pub framed : IsFramed content end bytes
  pub fits : Fits s.store content end bytes
  pub stands : StandsFor s.format content s.tally

-- a ledger of this set-up that holds what these bytes represent
pub record IsOpened (canton : Canton) (bytes : List ℕ) (s : Ledger) : Type 0 where
  pub ready : IsReady canton s
  pub found : HoldsLedgerFramed s bytes

-- the disk gate is open, the header, the slot and the records are right, and the set-up bytes are those of another set-up
pub record Differs (canton : Canton) (bytes : List ℕ) : Type 0 where
  pub content : Content
  pub end : ℕ
  pub framed : IsFramed content end bytes
  pub other : content.setup ≢ setup_spelling canton

-- the disk gate is open, and there is no content, or one with this set-up that represents no count
pub record IsDamaged (canton : Canton) (bytes : List ℕ) : Type 0 where
  pub gate : IsBlank bytes → ⊥
  pub setup : (x : Content) (j : ℕ) → IsFramed x j bytes → x.setup ≡ setup_spelling canton
  pub nothing : (x : Content) (j : ℕ) → IsFramed x j bytes
      → (format : Format) (tally : Tally) → tally.canton ≡ canton → StandsFor format x tally → ⊥

-- these bytes are framed with this content, the store fits it, and the reader has not read its records yet
pub record AwaitsReplay (s : State) (rest : Rest) (x : Content) (bytes : List ℕ) : Type 0 where
  pub end : ℕ
  pub framed : IsFramed x end bytes
  pub fits : Fits s x end bytes
  pub left : Frames 0 rest.pages rest.page x.records rest.end

-- the content has this set-up but represents no count
pub record IsWrong (canton : Canton) (x : Content) : Type 0 where
  pub own : x.setup ≡ setup_spelling canton
  pub nothing : (format : Format) (tally : Tally) → tally.canton ≡ canton → StandsFor format x tally → ⊥
