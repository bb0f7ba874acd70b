-- Reading a record as a row, by its fields alone.
use Rattle.std.specs.Prelude.{◌&&◌, ◌^◌, nat_lt, if◌then◌else◌, Bool, [], get_or, Result, Ok, Err}
use Rattle.std.specs.Cmp.Lexicographic.{pointwise}
use Rattle.std.specs.Str.{bytes_eq}
use Rattle.std.specs.Str.Parse.{digits_value}
use Rattle.zh_returns.specs.declared.row.Row.{Row}
use Rattle.zh_csv.specs.Load.{fields}
use Rattle.zh_csv.specs.Records.{Record, names, may_be_row}
use Rattle.zh_csv.specs.declared.batch_reader.LoadFault.{LoadFault}
use Rattle.zh_csv.specs.declared.batch_reader.LoadFault.TheVariants as faults

-- the row that the digits of the fields spell
abbrev pub row_by_digits : Record → Row
row_by_digits record_fields = record {
  municipality = digits_value 10 (get_or record_fields 0 []);
  list = digits_value 10 (get_or record_fields 1 []);
  number = digits_value 10 (get_or record_fields 2 []);
  votes = digits_value 10 (get_or record_fields 3 []);
}

-- whether a row can be read: its numbers have 32 bits, and its replacement number is at least 1
abbrev pub is_readable : Row → Bool
is_readable row =
    nat_lt row.municipality (2 ^ 32) && nat_lt row.list (2 ^ 32) && nat_lt 0 row.number && nat_lt row.number (2 ^ 32)
    && nat_lt row.votes (2 ^ 32)

-- the row of a record, or why the record has no row
abbrev pub row_in : Record → Result Row LoadFault
row_in record_fields =
    if is_readable (row_by_digits record_fields) && pointwise bytes_eq record_fields (fields (row_by_digits record_fields))
    then Ok (row_by_digits record_fields)
    else if may_be_row record_fields then Err faults.Syntax
    else Err faults.Csv

-- whether a record consists of the column names
abbrev pub has_names : Record → Bool
has_names record_fields = pointwise bytes_eq record_fields names
