-- Writing the seats of a published sheet.
use Rattle.std.specs.Prelude.{◌≡◌, ◌⊎◌, ℕ, List, None, Result}
use Rattle.zh_districts.specs.Canton.{Canton}
use Rattle.zh_arguments.specs.declared.seats.Layout.{Layout}
use Rattle.zh_check.specs.Verdicts.{IsRight}
use Rattle.zh_check.specs.declared.checked.RightSheet.{RightSheet}
use Rattle.zh_sheet_text.specs.declared.mark.Source.TheVariants as sources
use Rattle.zh_verdicts.specs.Right.{unchecked_line}
use Rattle.zh_program.specs.Results.{IsNoSheetOf}
use Rattle.zh_sheet_text.specs.declared.mark.MarkedSheet.{MarkedSheet}
use Rattle.zh_sheet_text.specs.declared.mark.NoSeats.{NoSeats}
use Rattle.zh_file.specs.declared.files.Files.{Ghosts as Files}
use Rattle.zh_program.specs.Check.{a_sheet}
use Rattle.zh_program.specs.Seats.{IsShownReason, laid_out}
use Rattle.zh_program.specs.Shown.{Shows}
use Rattle.zh_program.specs.Texts.{ReadsNoMore, ReadsText, ReadsThen, UsesTexts, a_setup}
use Rattle.zh_program.specs.World.{Known, WorldOf}
use Rattle.zh_program.specs.declared.fault.TaskFault.{TaskFault}
use Rattle.zh_program.specs.declared.sheet_seats.SheetPaths.{SheetPaths}
use Rattle.zh_program.specs.declared.shown.Shown.{Shown}
use Rattle.zh_program.specs.declared.shown.Shown.TheVariants.{Advised}

-- The seats of a sheet, marked with what the sheet states.
abbrev pub stated : RightSheet → MarkedSheet
stated right = record {
  sheet = right.sheet;
  mark = record { is_final = right.head.is_final; accepted = right.head.accepted; source = sources.Sheet };
}

-- The seats of this sheet, and a remark on what no check can verify about them.
abbrev pub AreStated : Layout → RightSheet → Shown → Type 0
AreStated layout right (Advised text advice) =
    (text.items ≡ laid_out layout (stated right)) × (advice.items ≡ unchecked_line right)
AreStated layout right shown = ⊥

-- What may be shown of these bytes: the seats, if they are a right sheet of this set-up, or the reason why there are none.
abbrev pub MayShowSheet : Canton → List ℕ → Layout → Shown → Type 0
MayShowSheet canton bytes layout shown =
    ((right : RightSheet) × IsRight canton None bytes right × AreStated layout right shown)
    ⊎ ((why : NoSeats) × IsNoSheetOf canton bytes why × IsShownReason canton why shown)

module _ {F T D R : Type 0} where
  -- The set-up is read, then the sheet.
  abbrev pub ReadsBoth : Files F T D R → SheetPaths → F → F → Result (Canton × List ℕ) TaskFault → Type 0
  ReadsBoth files paths =
      ReadsThen (ReadsText files a_setup paths.setup.now) (λ canton.
      ReadsThen (ReadsText files a_sheet paths.sheet.now) (λ sheet. ReadsNoMore (canton, sheet)))

-- The seats of the sheet at a path are written, or the reason why there are none.
abbrev pub HasShownSheet : (of : Known) → SheetPaths → WorldOf of → WorldOf of → Result (Unit {0}) TaskFault → Type 0
HasShownSheet of paths = UsesTexts of (ReadsBoth of.files paths) (λ both. Shows of (MayShowSheet both.0 both.1 paths.layout))
