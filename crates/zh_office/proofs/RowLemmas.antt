-- Reading a record as a row is unambiguous.
use Rattle.std.proofs.Common.{◌≡◌, ◌≢◌, ◌<◌, ◌^◌, ◌&&◌, ◌∙◌, ℕ, [], ◌∷◌, Result, Ok, Err, refl, sym, ap, arith, true, false, Bool}
use Rattle.std.proofs.Common.{decimal, if◌then◌else◌}
use Rattle.std.specs.Cmp.Lexicographic.{pointwise}
use Rattle.std.specs.Str.{bytes_eq}
use Rattle.std.specs.Str.Parse.{AllDigits, digits_value}
use Rattle.std.proofs.lemmas.Bool.{and_parts}
use Rattle.std.proofs.lemmas.Bool.Decides.{nat_tests}
use Rattle.std.proofs.lemmas.Fmt.{digits_value-decimal}
use Rattle.std.proofs.lemmas.List.{append-nil}
use Rattle.std.proofs.lemmas.Slice.Eq.{bytes_eq-Decides, slice_eq-Decides}
use Rattle.std.proofs.lemmas.Str.Parse.{numerals_by_value, tells_digits}
use Rattle.zh_returns.specs.declared.row.Row.{Row}
use Rattle.zh_commands.specs.declared.replies.Refusal.TheVariants as refusals
use Rattle.zh_csv.specs.Records.{Record, may_be_row, names}
use Rattle.zh_csv.specs.Load.{fields, IsReadable}
use Rattle.zh_csv.specs.Reading.{IsUnread}
use Rattle.zh_csv.specs.declared.batch_reader.LoadFault.{LoadFault}
use Rattle.zh_csv.specs.declared.batch_reader.LoadFault.TheVariants as faults
use Rattle.zh_csv.proofs.CallerLemmas.{may_be}
use Rattle.zh_office.specs.Findings.{Finding, first_findings}
use Rattle.zh_office.specs.Rows.{row_by_digits, is_readable, row_in, has_names}
use Rattle.zh_office.specs.JudgementText.{line_by, finding_lines}
use Rattle.zh_office.specs.declared.judgement.Judgement.TheVariants.{Refused}

-- the value of the digits of a numeral is its number
number_said : (n : ℕ) → n < 2 ^ 32 → digits_value 10 (decimal n) ≡ n
number_said n small = digits_value-decimal (numerals_by_value (AllDigits 10) tells_digits) n (omega arith)

row_said : (row : Row) → IsReadable row → row_by_digits (fields row) ≡ row
row_said row is =
    let m = number_said row.municipality is.municipality in
    let l = number_said row.list is.list in
    let n = number_said row.number is.number.1 in
    let v = number_said row.votes is.votes in
    λ i. record { municipality = m i; list = l i; number = n i; votes = v i }

-- a row that can be read passes the test
passes : (row : Row) → IsReadable row → is_readable row ≡ true
passes row is = grind (arith, nat_tests, is.municipality, is.list, is.number.0, is.number.1, is.votes)

passed : (row : Row) → is_readable row ≡ true → IsReadable row
passed row test = record {
  municipality = grind (arith, nat_tests);
  list = grind (arith, nat_tests);
  number = (grind (arith, nat_tests), grind (arith, nat_tests));
  votes = grind (arith, nat_tests);
}

-- the tests that compare records
same_fields : (all other : Record) → all ≡ other → pointwise bytes_eq all other ≡ true
same_fields all other is = (slice_eq-Decides bytes_eq-Decides all other (pointwise bytes_eq all other) refl).1 is

fields_same : (all other : Record) → pointwise bytes_eq all other ≡ true → all ≡ other
fields_same all other test = (slice_eq-Decides bytes_eq-Decides all other (pointwise bytes_eq all other) refl).0 test

-- whether a record is the record of this row, which can be read
abbrev is_of_row : Record → Row → Bool
is_of_row all row = is_readable row && pointwise bytes_eq all (fields row)

of_its_row : (row : Row) → IsReadable row → is_of_row (fields row) row ≡ true
of_its_row row is = rw (passes row is, same_fields (fields row) (fields row) refl) refl

-- the reading of a record whose digits spell this row, by whether it is the record of the row
abbrev read_as : Record → Row → Bool → Result Row LoadFault
read_as all row is = if is then Ok row else if may_be_row all then Err faults.Syntax else Err faults.Csv

-- a row is read from its fields
pub row_in-fields : (row : Row) → IsReadable row → row_in (fields row) ≡ Ok row
row_in-fields row is =
    let its : read_as (fields row) row (is_of_row (fields row) row) ≡ Ok row = ap (read_as (fields row) row) (of_its_row row is) in
    ap (λ (said : Row). read_as (fields row) said (is_of_row (fields row) said)) (row_said row is) ∙ its

-- a record that belongs to no row does not pass the test for one
of_no_row : (all : Record) → ((row : Row) → IsReadable row → all ≢ fields row) → is_of_row all (row_by_digits all) ≡ false
of_no_row all none = by (is_of_row all (row_by_digits all)) refl
  where
    by : (b : Bool) → is_of_row all (row_by_digits all) ≡ b → b ≡ false
    by false missed = refl
    by true found =
        let row : Row = row_by_digits all in
        let (readable, same) = and_parts (is_readable row) (pointwise bytes_eq all (fields row)) found in
        absurd (none row (passed row readable) (fields_same all (fields row) same))

pub read_other : (all : Record) → may_be_row all ≡ false → row_in all ≡ Err faults.Csv
read_other all other =
    let none : (row : Row) → IsReadable row → all ≢ fields row = λ row is same.
    let wrong : true ≡ false = sym (may_be row is) ∙ ap may_be_row (sym same) ∙ other in cc wrong in
    rw (of_no_row all none, other) refl

pub row_in-unread : (all : Record) (fault : LoadFault) → IsUnread fields IsReadable all fault → row_in all ≡ Err fault
row_in-unread all faults.Csv other = read_other all other
row_in-unread all faults.Syntax (may, none) = rw (of_no_row all none, may) refl
row_in-unread all fault none = absurd none

-- the test finds the column names and nothing else
pub names_found : (all : Record) → all ≡ names → first_findings all ≡ []
names_found all is = rw (same_fields all names is) refl

-- the finding on a first record that does not consist of the column names
abbrev pub bad_first : Record → Finding
bad_first all = record { number = 1; fields = all; judgement = Refused refusals.Csv }

pub names_missed : (all : Record) → (all ≡ names → ⊥) → first_findings all ≡ bad_first all ∷ []
names_missed all other = by (bad_first all) (has_names all) refl
  where
    by : (finding : Finding) (b : Bool) → has_names all ≡ b → (if b then [] else finding ∷ []) ≡ finding ∷ []
    by finding true found = absurd (other (fields_same all names found))
    by finding false missed = refl

-- the line of that finding
pub missed_line : (all : Record) → (all ≡ names → ⊥) → finding_lines (first_findings all) ≡ line_by 1 all (Refused refusals.Csv)
missed_line all other = ap finding_lines (names_missed all other) ∙ append-nil (line_by 1 all (Refused refusals.Csv))
