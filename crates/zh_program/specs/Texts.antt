-- The texts that a task reads before anything else: what they give, and their order.
use Rattle.std.specs.Prelude.{◌≡◌, ◌≢◌, ◌⊎◌, ◌≤◌, ℕ, List, Option, Some, None, Result, Ok, Err, IsErrAnd, MatchResult}
use Rattle.zh_districts.specs.Canton.{Canton}
use Rattle.zh_setups.specs.Refusals.{IsPlaced}
use Rattle.zh_setups.specs.SetupText.{reading_of}
use Rattle.zh_setups.specs.declared.text.SetupFault.TheVariants.{Memory}
use Rattle.zh_setups.specs.declared.text.SetupRefusal.{SetupRefusal}
use Rattle.zh_file.specs.declared.fault.FileCause.{FileCause}
use Rattle.zh_file.specs.declared.fault.FileFault.{FileFault}
use Rattle.zh_file.specs.declared.fault.FileFault.TheVariants as of_files
use Rattle.zh_file.specs.declared.files.Files.{Ghosts as Files}
use Rattle.zh_program.specs.World.{AreCalls, IsMetAt, IsSetupAt, Known, WorldOf}
use Rattle.zh_program.specs.declared.fault.TaskFault.{TaskFault}
use Rattle.zh_program.specs.declared.fault.TaskFault.TheVariants as faults
use Rattle.zh_program.specs.declared.place.TaskFile.{TaskFile}
use Rattle.zh_program.specs.declared.place.TaskFile.TheVariants as roles

-- The refusal is right for the text, if the text is known: the text has this fault at this place, unless memory was refused.
abbrev pub RefusesSetup : Option (List ℕ) → SetupRefusal → Type 0
RefusesSetup None refusal = Unit {0}
RefusesSetup (Some text) refusal = (refusal.fault ≢ Memory → reading_of text ≡ Err refusal.fault) × IsPlaced text refusal

-- The fault is refused memory, a fault in this text of the set-up, or a fault of its file, which the call for it met. It comes
-- before everything else.
abbrev pub IsOfSetup : Option (List ℕ) → (FileFault → Type 0) → TaskFault → Type 0
IsOfSetup text Met (faults.Unopened roles.Setup cause) = Met (of_files.Device cause)
IsOfSetup text Met (faults.Unreadable roles.Setup) = Unit {0}
IsOfSetup text Met (faults.Setup refusal) = RefusesSetup text refusal
IsOfSetup text Met faults.Memory = Unit {0}
IsOfSetup text Met fault = ⊥

-- The text of this file was not opened: the call for it met this fault, or memory was refused.
abbrev pub IsUnopened : TaskFile → (FileFault → Type 0) → TaskFault → Type 0
IsUnopened role Met fault =
    (fault ≡ faults.Memory) ⊎ ((cause : FileCause) × (fault ≡ faults.Unopened role cause) × Met (of_files.Device cause))

-- A kind of text: what it gives, with bytes that may be known, and the fault if it gives nothing, where the call for it may
-- have met a fault.
pub record TextKind (X : Type 0) : Type 1 where
  pub Gives : Option (List ℕ) → X → Type 0
  pub Lacks : Option (List ℕ) → (FileFault → Type 0) → TaskFault → Type 0

abbrev pub a_setup : TextKind Canton
a_setup = record { Gives = IsSetupAt; Lacks = IsOfSetup }

module _ {F T D R X : Type 0} where
  -- A text of this kind was read at this path, or gave nothing, with one call of the files.
  pub record ReadsText (files : Files F T D R) (kind : TextKind X) (path : List ℕ) (old new : F)
      (result : Result X TaskFault) : Type 0 where
    pub call : AreCalls files 1 old new
    pub read : MatchResult result (kind.Gives (files.text_at old path)) (kind.Lacks (files.text_at old path) (IsMetAt files path old new))

module _ {F X Y : Type 0} where
  -- First this was read and then, given its result, the next; or one of the two ended in a fault.
  abbrev pub ReadsThen : (F → F → Result X TaskFault → Type 0) → (X → F → F → Result Y TaskFault → Type 0)
      → F → F → Result Y TaskFault → Type 0
  ReadsThen First Next old new (Ok y) = (mid : F) × (x : X) × First old mid (Ok x) × Next x mid new (Ok y)
  ReadsThen First Next old new (Err fault) =
      First old new (Err fault) ⊎ ((mid : F) × (x : X) × First old mid (Ok x) × Next x mid new (Err fault))

module _ {F X : Type 0} where
  -- Nothing more was read, and the result is this.
  abbrev pub ReadsNoMore : X → F → F → Result X TaskFault → Type 0
  ReadsNoMore x old new result = (new ≡ old) × (result ≡ Ok x)

module _ {X : Type 0} where
  -- Texts were read, with at most three calls of the files, and then this was done with them, without further calls; or a text
  -- gave nothing, and nothing was done.
  pub record UsesTexts (of : Known) (Reads : of.Folder → of.Folder → Result X TaskFault → Type 0)
      (Does : X → WorldOf of → WorldOf of → Result (Unit {0}) TaskFault → Type 0) (old new : WorldOf of)
      (result : Result (Unit {0}) TaskFault) : Type 0 where
    pub files : of.Folder
    pub calls : (n : ℕ) × (n ≤ 3) × AreCalls of.files n old.files files
    pub rest : new.files ≡ files
    pub done : (IsErrAnd result (λ fault. Reads old.files files (Err fault)) × (new ≡ record old { files = files }))
        ⊎ ((x : X) × Reads old.files files (Ok x) × Does x (record old { files = files }) new result)
