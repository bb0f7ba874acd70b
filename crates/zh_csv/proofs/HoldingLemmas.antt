-- The rows of an export are a kind of row. A text determines its sums, unless memory is refused or the reader fails.
use Rattle.std.proofs.Common.{◌≡◌, ◌≤◌, ◌<◌, ◌^◌, ℕ, false, true, List, ◌∷◌, ◌++◌, length, Option, Some, None, IfSome}
use Rattle.std.proofs.Common.{Result, Ok, Err, refl, sym, ap, ◌∙◌, arith, decimal}
use Rattle.zh_districts.specs.Canton.{Canton}
use Rattle.zh_returns.specs.RowFaults.{unfit}
use Rattle.zh_csv.specs.Export.{votes_field}
use Rattle.zh_csv.specs.Front.{front_of}
use Rattle.zh_csv.specs.Records.{may_be_row}
use Rattle.zh_csv.specs.Reading.{IsOfText}
use Rattle.zh_csv.specs.declared.batch_reader.LoadFault.{LoadFault}
use Rattle.zh_csv.proofs.ReadingLemmas.{IsKind, four_short, refused_by_front, rows_of_front}
use Rattle.zh_csv.proofs.OneReadingLemmas.{among_all, one_reading, own_key}
use Rattle.zh_csv.proofs.FieldLemmas.{numeral_short}
use Rattle.zh_csv.specs.declared.held_sums.HeldSums.{HeldSums}
use Rattle.zh_csv.specs.declared.held_sums.HeldRow.{HeldRow}
use Rattle.zh_csv.specs.Rows.{held_key, held_fields, as_row, holds_key, IsHeldRow, AreHeld, sums_of}
use Rattle.zh_csv.specs.Held.{row_fault, holding, AddsUp, AreHeldIn}
use Rattle.zh_csv.proofs.HeldFieldLemmas.{same_row}

-- the record of a row is short enough
votes_short : (votes : Option ℕ) → IfSome votes (λ n. n < 2 ^ 32) → length (votes_field votes) ≤ 10
votes_short None small = omega arith
votes_short (Some n) small = numeral_short n small

may : (row : HeldRow) → IsHeldRow row → may_be_row (held_fields row) ≡ true
may row is =
    four_short (decimal row.municipality) (decimal row.list) (decimal row.number) (votes_field row.votes)
    (numeral_short row.municipality is.municipality) (numeral_short row.list is.list) (numeral_short row.number is.number.1) (votes_short row.votes is.votes)

-- a row among rows that are held is not refused after those before it
no_fault : (canton : Canton) (rows : List HeldRow) (row : HeldRow) (others : List HeldRow) → AreHeld canton (rows ++ row ∷ others) → row_fault canton rows row ≡ None
no_fault canton rows row others are =
    let fit : unfit canton (as_row row) ≡ None = among_all (λ (r : HeldRow). unfit canton (as_row r) ≡ None) rows row others are.fit in
    let own : holds_key rows (held_key row) ≡ false = own_key held_key rows row others are.keys in
    rw fit (rw own refl)

-- these rows are a kind
is_holding : (canton : Canton) → IsKind (holding canton)
is_holding canton = record {
  may = may;
  once = same_row;
  readable = λ rows are. are.readable;
  follows = no_fault canton;
}

-- the sums of the front of a text are those of the text
pub adds_up_of_front : (canton : Canton) (text : List ℕ) (held : Result HeldSums LoadFault) → AddsUp canton (front_of text) held → AddsUp canton text held
adds_up_of_front canton text (Ok sums) is = record {
  rows = is.rows;
  records = rows_of_front (holding canton) (is_holding canton) text is.rows is.are.held is.records;
  are = is.are;
}
adds_up_of_front canton text (Err fault) refused = refused_by_front (holding canton) (is_holding canton) text fault refused

pub one_holding : (canton : Canton) (text : List ℕ) (held other : Result HeldSums LoadFault)
    → AddsUp canton text held → AddsUp canton text other → IsOfText held → IsOfText other → held ≡ other
one_holding canton text =
    one_reading (holding canton) (is_holding canton) text (AddsUp canton text) (λ sums x. (x.rows, x.records, x.are.held)) same_sums
    (λ fault refused. refused)
  where
    same_sums : (sums more : HeldSums) (x : AreHeldIn canton text sums) (y : AreHeldIn canton text more) → x.rows ≡ y.rows → sums ≡ more
    same_sums sums more x y rows =
        let count : sums.rows ≡ more.rows = x.are.count ∙ ap (λ (r : List HeldRow). length r) rows ∙ sym y.are.count in
        let totals : sums.totals ≡ more.totals = x.are.totals ∙ ap (sums_of canton) rows ∙ sym y.are.totals in
        λ i. record { rows = count i; totals = totals i }
