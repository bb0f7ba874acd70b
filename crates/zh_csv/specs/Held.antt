-- The sums of a text of records in the form of an export.
use Rattle.std.specs.Prelude.{◌≡◌, List, ◌∷◌, map, length, Option, Some, None, if◌then◌else◌, ℕ, Result, Ok, Err, IfOk}
use Rattle.zh_districts.specs.Canton.{Canton}
use Rattle.zh_returns.specs.RowFaults.{unfit}
use Rattle.zh_returns.specs.declared.row.RowFault.TheVariants.{Twice}
use Rattle.zh_csv.specs.Load.{first_fault}
use Rattle.zh_csv.specs.Reading.{RowKind, Refuses}
use Rattle.zh_csv.specs.Records.{AreAll, names}
use Rattle.zh_csv.specs.declared.batch_reader.LoadFault.{LoadFault}
use Rattle.zh_csv.specs.declared.held_sums.HeldSums.{HeldSums}
use Rattle.zh_csv.specs.declared.held_sums.HeldRow.{HeldRow}
use Rattle.zh_csv.specs.Rows.{held_fields, as_row, held_key, holds_key, IsHeldRow, AreHeld, sums_of}

-- these are rows of this set-up, no two with the same key; the sums are their number and the votes of each list in each constituency
pub record AreSums (canton : Canton) (rows : List HeldRow) (sums : HeldSums) : Type 0 where
  pub held : AreHeld canton rows
  pub count : sums.rows ≡ length rows
  pub totals : sums.totals ≡ sums_of canton rows

-- the text consists of the names of the columns and of rows with these sums
pub record AreHeldIn (canton : Canton) (text : List ℕ) (sums : HeldSums) : Type 0 where
  pub rows : List HeldRow
  pub records : AreAll text (names ∷ map held_fields rows)
  pub are : AreSums canton rows sums

-- why a row cannot follow others: its own first fault, or else that an earlier row has its key
abbrev pub row_fault : Canton → List HeldRow → HeldRow → Option LoadFault
row_fault canton rows row = first_fault (unfit canton (as_row row)) (if holds_key rows (held_key row) then Some Twice else None)

-- the kind of the rows of an export
abbrev pub holding : Canton → RowKind HeldRow
holding canton = record { fields = held_fields; IsReadable = IsHeldRow; AreHeld = AreHeld canton; fault_after = row_fault canton }

-- the sums of a text, or why it has none
abbrev pub AddsUp : Canton → List ℕ → Result HeldSums LoadFault → Type 0
AddsUp canton text (Ok sums) = AreHeldIn canton text sums
AddsUp canton text (Err fault) = Refuses (holding canton) text fault

-- The sums of a text that satisfies `IsText`, or why it has none. Whether or not the text is known, they are the sums of rows of this
-- set-up.
pub record IsHolding (canton : Canton) (IsText : List ℕ → Type 0) (held : Result HeldSums LoadFault) : Type 0 where
  pub known : (text : List ℕ) → IsText text → AddsUp canton text held
  pub sums : IfOk held (λ sums. (rows : List HeldRow) × AreSums canton rows sums)
