-- What a text of records loads: the rows of a batch, or why it is refused.
use Rattle.std.specs.Prelude.{◌≡◌, ℕ, ◌<◌, ◌≤◌, ◌^◌, List, [], ◌∷◌, map, All}
use Rattle.std.specs.Prelude.{IfOk, true, Bool, Option, Some, None, Result, Ok, Err, decimal}
use Rattle.zh_districts.specs.Canton.{Canton}
use Rattle.zh_returns.specs.declared.row.Row.{Row}
use Rattle.zh_returns.specs.Rows.{AreRows}
use Rattle.zh_returns.specs.declared.judgement.Reason.{Reason}
use Rattle.zh_returns.specs.RowFaults.{unfit, fault_in}
use Rattle.zh_returns.specs.declared.row.RowFault.{RowFault}
use Rattle.zh_csv.specs.Records.{Record, AreAll, names}
use Rattle.zh_csv.specs.Reading.{RowKind, Refuses}
use Rattle.zh_csv.specs.declared.batch_reader.LoadFault.{LoadFault}
use Rattle.zh_csv.specs.declared.batch_reader.LoadFault.TheVariants as faults

-- the record of a row: four numerals
abbrev pub fields : Row → Record
fields row = decimal row.municipality ∷ decimal row.list ∷ decimal row.number ∷ decimal row.votes ∷ []

-- the numbers are below 2 ^ 32, and the replacement number is at least 1
pub record IsReadable (row : Row) : Type 0 where
  pub municipality : row.municipality < 2 ^ 32
  pub list : row.list < 2 ^ 32
  pub number : (1 ≤ row.number) × (row.number < 2 ^ 32)
  pub votes : row.votes < 2 ^ 32

-- why a row cannot follow others, apart from refused memory: no batch can have it, or this batch can't take it
abbrev pub first_fault : Option Reason → Option RowFault → Option LoadFault
first_fault (Some reason) fault = Some (faults.Judged reason)
first_fault None (Some fault) = Some (faults.Row fault)
first_fault None None = None

abbrev pub fault_after : Canton → List Row → Row → Option LoadFault
fault_after canton rows row = first_fault (unfit canton row) (fault_in rows row)

-- rows that can be held together: at most 1,000, no two with the same key, each of a list that stands in its municipality, with at most as
-- many votes as a return can have
pub record AreLoaded (canton : Canton) (rows : List Row) : Type 0 where
  pub are_rows : AreRows rows
  pub fit : All (λ row. unfit canton row ≡ None) rows

-- the kind of the rows of a batch
abbrev pub loading : Canton → RowKind Row
loading canton = record { fields = fields; IsReadable = IsReadable; AreHeld = AreLoaded canton; fault_after = fault_after canton }

-- what a text loads: these rows, or why it is refused
abbrev pub Loads : Canton → List ℕ → Result (List Row) LoadFault → Type 0
Loads canton text (Ok rows) = AreAll text (names ∷ map fields rows) × AreLoaded canton rows
Loads canton text (Err fault) = Refuses (loading canton) text fault

-- What is loaded from a reader: rows that can be held together, or a fault. It is a fault of the reader only if a read failed. If the bytes
-- of the text are known, the result is what they load.
pub record LoadsFrom (canton : Canton) (text : Option (List ℕ)) (failed : Bool) (loaded : Result (List Row) LoadFault) : Type 0 where
  pub rows : IfOk loaded (AreLoaded canton)
  pub read : loaded ≡ Err faults.Read → failed ≡ true
  pub known : (bytes : List ℕ) → text ≡ Some bytes → Loads canton bytes loaded
