-- Checking a published sheet.
use Rattle.std.specs.Prelude.{◌≡◌, ◌⊎◌, ℕ, List, take, Option, Some, None, Result, Ok, Err, option_map}
use Rattle.std.specs.Io.KnownBytes.{Appends}
use Rattle.zh_arguments.specs.declared.check.CheckPaths.{CheckPaths}
use Rattle.zh_check.specs.declared.checked.RightSheet.{RightSheet}
use Rattle.zh_check.specs.declared.checked.SheetVerdict.{SheetVerdict}
use Rattle.zh_check.specs.declared.checked.SheetVerdict.TheVariants.{Right}
use Rattle.zh_verdicts.specs.Checks.{ComesTo, Inputs, SaysWrong, check_text}
use Rattle.zh_csv.specs.declared.batch_reader.LoadFault.{LoadFault}
use Rattle.zh_csv.specs.declared.batch_reader.LoadFault.TheVariants as loads
use Rattle.zh_districts.specs.Canton.{Canton}
use Rattle.zh_csv.specs.Faults.{named}
use Rattle.zh_csv.specs.Held.{IsHolding}
use Rattle.zh_csv.specs.declared.held_sums.HeldSums.{HeldSums}
use Rattle.zh_file.specs.declared.files.Files.{Ghosts as Files}
use Rattle.zh_file.specs.declared.fault.FileFault.{FileFault}
use Rattle.zh_file.specs.declared.fault.FileFault.TheVariants as of_files
use Rattle.zh_program.specs.Load.{WritesPart}
use Rattle.zh_program.specs.Texts.{IsUnopened, ReadsNoMore, ReadsText, ReadsThen, TextKind, UsesTexts, a_setup}
use Rattle.zh_program.specs.World.{Known, WorldOf}
use Rattle.zh_program.specs.declared.place.TaskFile.TheVariants as files
use Rattle.zh_program.specs.declared.fault.TaskFault.{TaskFault}
use Rattle.zh_program.specs.declared.fault.TaskFault.TheVariants as faults

-- These are the first 280,065 bytes of a sheet's file, more than any sheet has, if its bytes are known.
abbrev pub IsSheetAt : Option (List ℕ) → List ℕ → Type 0
IsSheetAt None front = Unit {0}
IsSheetAt (Some text) front = front ≡ take 280065 text

-- The fault of an export, as the fault of the task.
abbrev pub HeldFaultAs : LoadFault → TaskFault → Type 0
HeldFaultAs why (faults.Held fault) = named why ≡ Some fault
HeldFaultAs why (faults.Unreadable files.Held) = why ≡ loads.Read
HeldFaultAs why faults.Memory = why ≡ loads.Memory
HeldFaultAs why fault = ⊥

-- The fault of a file that was opened but gives no sheet.
abbrev pub IsOfSheet : TaskFault → Type 0
IsOfSheet (faults.Unreadable files.Sheet) = Unit {0}
IsOfSheet faults.Memory = Unit {0}
IsOfSheet fault = ⊥

-- The file gives no sheet, or the call that opens it met a fault.
abbrev pub LacksSheetFile : (FileFault → Type 0) → TaskFault → Type 0
LacksSheetFile Met (faults.Unopened files.Sheet cause) = Met (of_files.Device cause)
LacksSheetFile Met fault = IsOfSheet fault

-- What reading a sheet gives.
abbrev pub a_sheet : TextKind (List ℕ)
a_sheet = record { Gives = IsSheetAt; Lacks = λ known. LacksSheetFile }

-- The sums of an export whose bytes may be known, or the fault by which it has none.
abbrev pub IsExportAt : Option (List ℕ) → Canton → Result HeldSums LoadFault → Type 0
IsExportAt known canton = IsHolding canton (λ bytes. known ≡ Some bytes)

-- The file gives no sums, or the call that opens it met a fault.
abbrev pub IsOfHeld : Option (List ℕ) → Canton → (FileFault → Type 0) → TaskFault → Type 0
IsOfHeld known canton Met fault =
    IsUnopened files.Held Met fault ⊎ ((why : LoadFault) × HeldFaultAs why fault × IsExportAt known canton (Err why))

-- What reading an export gives: its sums.
abbrev pub an_export : Canton → TextKind HeldSums
an_export canton = record { Gives = λ known sums. IsExportAt known canton (Ok sums); Lacks = λ known. IsOfHeld known canton }

module _ {F T D R : Type 0} where
  -- The export at this path is read. Without a path, nothing is read.
  abbrev pub ReadsHeld : Files F T D R → Canton → Option (List ℕ) → F → F → Result (Option HeldSums) TaskFault → Type 0
  ReadsHeld files canton None old new result = ReadsNoMore None old new result
  ReadsHeld files canton (Some path) old new (Ok None) = ⊥
  ReadsHeld files canton (Some path) old new (Ok (Some sums)) = ReadsText files (an_export canton) path old new (Ok sums)
  ReadsHeld files canton (Some path) old new (Err fault) = ReadsText files (an_export canton) path old new (Err fault)

  -- The set-up is read, then the sheet, then the export if its path is given.
  abbrev pub ReadsInputs : Files F T D R → CheckPaths → F → F → Result Inputs TaskFault → Type 0
  ReadsInputs files paths =
      ReadsThen (ReadsText files a_setup paths.setup.now) (λ canton.
      ReadsThen (ReadsText files a_sheet paths.sheet.now) (λ sheet.
      ReadsThen (ReadsHeld files canton (option_map (λ path. path.now) paths.held)) (λ held.
      ReadsNoMore (record { canton = canton; sheet = sheet; held = held }))))

-- What a check has written about its inputs, by its result: the whole verdict, a part of it if a write failed, or nothing if memory
-- was refused.
abbrev pub Answers : Type 0 → Option (List ℕ) → Option (List ℕ) → Inputs → Result (Unit {0}) TaskFault → Type 0
Answers unwritten w w' inputs (Ok done) =
    (right : RightSheet) × ComesTo inputs (Right right) × Appends w w' (check_text inputs (Right right))
Answers unwritten w w' inputs (Err faults.Refused) =
    (verdict : SheetVerdict) × ComesTo inputs verdict × SaysWrong verdict × Appends w w' (check_text inputs verdict)
Answers unwritten w w' inputs (Err faults.Write) =
    (verdict : SheetVerdict) × ComesTo inputs verdict × WritesPart w w' (check_text inputs verdict)
Answers unwritten w w' inputs (Err faults.Memory) = unwritten
Answers unwritten w w' inputs (Err fault) = ⊥

-- The sheet at a path is checked. Only the verdict is written.
abbrev pub Checked : (of : Known) → CheckPaths → WorldOf of → WorldOf of → Result (Unit {0}) TaskFault → Type 0
Checked of paths = UsesTexts of (ReadsInputs of.files paths) (λ inputs old new result.
    (new ≡ record old { output = new.output })
    × Answers (new.output ≡ old.output) (of.writers.contents old.output) (of.writers.contents new.output) inputs result)
