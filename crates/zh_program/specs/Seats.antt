-- The seats as text.
use Rattle.std.specs.Prelude.{◌≡◌, ℕ, Bool, if◌then◌else◌, List, Result, Ok, Err, IfOk, IfErr}
use Rattle.zh_arguments.specs.declared.seats.Layout.{Layout}
use Rattle.zh_arguments.specs.declared.seats.SeatsOf.{SeatsOf}
use Rattle.zh_arguments.specs.declared.seats.SeatsOf.TheVariants.{Lists, Groups, Constituencies}
use Rattle.zh_count_tables.specs.Grids.{constituency_table_text, group_table_text}
use Rattle.zh_count_tables.specs.SheetLines.{constituencies_text, groups_text}
use Rattle.zh_districts.specs.Canton.{Canton}
use Rattle.zh_returns.specs.Tally.{Tally}
use Rattle.zh_totals.specs.Counting.{totals_of}
use Rattle.zh_sheet_text.specs.Lists.{seats_text}
use Rattle.zh_sheet_text.specs.declared.mark.Source.TheVariants as sources
use Rattle.zh_sheet_text.specs.SeatTable.{table_text}
use Rattle.zh_office.specs.Sheets.{MayAnswerSheet}
use Rattle.zh_program.specs.Results.{IsReasonFor, answer_of}
use Rattle.zh_sheet_text.specs.Reported.{refusal_text}
use Rattle.zh_sheet_text.specs.declared.mark.MarkedSheet.{MarkedSheet}
use Rattle.zh_sheet_text.specs.declared.mark.NoSeats.{NoSeats}
use Rattle.zh_program.specs.declared.shown.Shown.{Shown}
use Rattle.zh_program.specs.declared.shown.Shown.TheVariants.{Text, Nothing}

-- The records of the seats, then their table for people.
abbrev pub seat_records : SeatsOf → MarkedSheet → List ℕ
seat_records Lists seats = seats_text seats.sheet seats.mark
seat_records Groups seats = groups_text seats.sheet seats.mark
seat_records Constituencies seats = constituencies_text seats.sheet seats.mark

abbrev pub seat_table : SeatsOf → MarkedSheet → List ℕ
seat_table Lists seats = table_text seats.sheet seats.mark
seat_table Groups seats = group_table_text seats.sheet seats.mark
seat_table Constituencies seats = constituency_table_text seats.sheet seats.mark

-- The text of the seats in this layout.
abbrev pub laid_out : Layout → MarkedSheet → List ℕ
laid_out layout seats = if layout.is_table then seat_table layout.of seats else seat_records layout.of seats

-- The reason why there are no seats.
abbrev pub IsShownReason : Canton → NoSeats → Shown → Type 0
IsShownReason canton why (Nothing text) = text.items ≡ refusal_text canton why
IsShownReason canton why shown = ⊥

-- These seats, or the reason why there are none.
abbrev pub AreShownSeats : Canton → Layout → Result MarkedSheet NoSeats → Shown → Type 0
AreShownSeats canton layout (Ok seats) (Text text) = text.items ≡ laid_out layout seats
AreShownSeats canton layout (Err why) shown = IsShownReason canton why shown
AreShownSeats canton layout seats shown = ⊥

-- The seats of a count, as the line `sheet` may give them or, if `is_final`, the line `final`; or the reason why there are
-- none.
pub record AreSeatsOf (tally : Tally) (is_final : Bool) (seats : Result MarkedSheet NoSeats) : Type 0 where
  pub answer : MayAnswerSheet tally is_final (answer_of seats)
  pub mark : IfOk seats (λ shown. shown.mark ≡ record { is_final = is_final; accepted = tally.accepted; source = sources.Count })
  pub reason : IfErr seats (IsReasonFor (totals_of tally))
