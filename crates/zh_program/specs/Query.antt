-- Answering a query from a count.
use Rattle.std.specs.Prelude.{◌≡◌, Result, false, true}
use Rattle.zh_arguments.specs.declared.commands.Query.{Query}
use Rattle.zh_arguments.specs.declared.commands.Query.TheVariants.{Export, Status, Votes, Seats}
use Rattle.zh_count_tables.specs.Grids.{IsVotesTable}
use Rattle.zh_count_tables.specs.Votes.{IsVotesText}
use Rattle.zh_csv.specs.Export.{export_text}
use Rattle.zh_districts.specs.Canton.{Canton}
use Rattle.zh_returns.specs.Tally.{Tally}
use Rattle.zh_tables.specs.Status.{IsSaidOf, IsStatusText}
use Rattle.zh_sheet_text.specs.declared.mark.MarkedSheet.{MarkedSheet}
use Rattle.zh_sheet_text.specs.declared.mark.NoSeats.{NoSeats}
use Rattle.zh_program.specs.Reading.{MakesReading}
use Rattle.zh_program.specs.Seats.{AreSeatsOf, AreShownSeats}
use Rattle.zh_program.specs.Shown.{Shows}
use Rattle.zh_program.specs.World.{Known, WorldOf}
use Rattle.zh_program.specs.declared.fault.TaskFault.{TaskFault}
use Rattle.zh_program.specs.declared.shown.Shown.{Shown}
use Rattle.zh_program.specs.declared.shown.Shown.TheVariants.{Text, Advised}

-- What a query may show of a count: its export; a view of it, with a remark; its votes so far; its seats, or why there are
-- none.
abbrev pub MayShow : Query → Tally → Shown → Type 0
MayShow Export tally (Text text) = text.items ≡ export_text tally
MayShow (Status view) tally (Advised text advice) = IsStatusText tally view text.items × IsSaidOf tally view advice.items
MayShow (Votes of false) tally (Text text) = IsVotesText tally of text.items
MayShow (Votes of true) tally (Text text) = IsVotesTable tally of text.items
MayShow (Seats is_final layout) tally shown =
    (seats : Result MarkedSheet NoSeats) × AreSeatsOf tally is_final seats × AreShownSeats tally.canton layout seats shown
MayShow query tally shown = ⊥

-- The answer to this query is shown, from the count of the office on a disk.
abbrev pub ShowsHeld : (of : Known) → Query → Canton → WorldOf of × of.Disk → WorldOf of × of.Disk → Result (Unit {0}) TaskFault → Type 0
ShowsHeld of query = MakesReading of (λ tally. Shows of (MayShow query tally))
