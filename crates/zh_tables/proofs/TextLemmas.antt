-- The text of a table: the names of its columns, then its rows; and why there is none.
use Rattle.std.proofs.Common.{◌≡◌, ℕ, List, ◌++◌, Option, Result, Ok, Err, refl, subst, sym}
use Rattle.std.specs.Prelude.{IfErr, IsErrOf}
use Rattle.std.specs.Result.{IsErrAnd}
use Rattle.std.specs.Io.KnownBytes.{Appends}
use Rattle.zh_districts.specs.Canton.{Canton}
use Rattle.zh_districts.specs.Seats.{AreSeats, IsFirstWithout, persons}
use Rattle.zh_districts.specs.declared.shares.SeatFault.{SeatFault}
use Rattle.zh_districts.specs.declared.shares.SeatFault.TheVariants as refusals
use Rattle.zh_divisors.specs.Fit.{IsTied}
use Rattle.zh_record_text.specs.Records.{record_text}
use Rattle.zh_record_text.specs.declared.records.RecordFault.{RecordFault}
use Rattle.zh_record_text.specs.declared.records.RecordFault.TheVariants as records
use Rattle.zh_tables.specs.Tables.{header, AreLines, IsTableText, RecordedAs, RefusesTable}
use Rattle.zh_tables.specs.declared.fault.ListFault.{ListFault}
use Rattle.zh_tables.specs.declared.fault.ListFault.TheVariants as faults
use Rattle.zh_tables.specs.declared.tables.Table.{Table}
use Rattle.zh_tables.specs.declared.tables.Table.TheVariants.{Constituencies}

pub table_text : (old new : Option (List ℕ)) (canton : Canton) (table : Table) (lines : List ℕ) → AreLines canton table lines
    → Appends old new (record_text (header table) ++ lines) → (text : List ℕ) × IsTableText canton table text × Appends old new text
table_text old new canton table lines are written = (record_text (header table) ++ lines, (lines, are, refl), written)

-- the seats are refused, or a record is
seats_why : {S : Type 0} (canton : Canton) (refusal : SeatFault) → (IsErrOf {T = S} (Err refusal) refusals.Tied → IsTied (persons canton) canton.house)
    → ((d : ℕ) → IsErrOf {T = S} (Err refusal) (refusals.NoSeat d) → (seats : List ℕ) × AreSeats canton seats × IsFirstWithout seats d) → RefusesTable canton Constituencies (faults.Seats refusal)
seats_why canton refusals.Memory tied no_seat = tt
seats_why canton refusals.Tied tied no_seat = tied refl
seats_why canton (refusals.NoSeat d) tied no_seat = no_seat d refl

pub seats_refused : {S T : Type 0} (canton : Canton) (result : Result T ListFault) (refusal : SeatFault)
    → (IsErrOf {T = S} (Err refusal) refusals.Tied → IsTied (persons canton) canton.house)
    → ((d : ℕ) → IsErrOf {T = S} (Err refusal) (refusals.NoSeat d) → (seats : List ℕ) × AreSeats canton seats × IsFirstWithout seats d)
    → IsErrAnd result (λ fault. fault ≡ faults.Seats refusal) → IfErr result (RefusesTable canton Constituencies)
seats_refused canton (Ok done) refusal tied no_seat is = tt
seats_refused canton (Err fault) refusal tied no_seat is = subst (λ (f : ListFault). RefusesTable canton Constituencies f) (sym is) (seats_why canton refusal tied no_seat)

pub record_refused : {T : Type 0} (canton : Canton) (table : Table) (result : Result T ListFault) (refusal : RecordFault)
    → IsErrAnd result (RecordedAs refusal) → IfErr result (RefusesTable canton table)
record_refused canton table (Ok done) refusal is = tt
record_refused canton table (Err fault) records.Memory is = subst (λ (f : ListFault). RefusesTable canton table f) (sym is) tt
record_refused canton table (Err fault) records.Write is = subst (λ (f : ListFault). RefusesTable canton table f) (sym is) tt

pub memory_refused : {T : Type 0} (canton : Canton) (table : Table) (result : Result T ListFault)
    → IsErrAnd result (λ fault. fault ≡ faults.Memory) → IfErr result (RefusesTable canton table)
memory_refused canton table (Ok done) is = tt
memory_refused canton table (Err fault) is = subst (λ (f : ListFault). RefusesTable canton table f) (sym is) tt
