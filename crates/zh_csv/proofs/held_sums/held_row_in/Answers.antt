use Rattle.std.proofs.Common.{rules, ◌≡◌, ◌∙◌, refl, sym, arith}
use Rattle.csv.specs.Records.{fields_of}
use Rattle.zh_csv.proofs.FieldLemmas.{one_numeral}
use Rattle.zh_csv.specs.Rows.{held_fields}
use Rattle.zh_csv.proofs.held_sums.held_row_in.Goals as goal

pub returns-then-row-eq0 : goal.returns-then-row-eq0
returns-then-row-eq0 c row is e =
    let read = c.in_ok-numeral-3.ensures in
    let same = one_numeral (fields_of c.args.csv_record.now) (held_fields row) 2 c.in_ok-numeral-3.field-0 row.number read.0 is.number.1 (sym c.field-3.ensures ∙ read.1) refl e in
    let zero : c.in_ok-numeral-3.field-0 ≡ 0 = search rules in
    absurd (omega (arith, is.number.0))
