-- The records of a text, as the crate `csv` reads them with no header row: comma-separated, each of whatever length.
use Rattle.std.specs.Prelude.{◌≡◌, ◌+◌, ◌==◌, ◌&&◌, nat_le, ℕ, Bool, List, [], ◌∷◌, length, Option, Some, true, codes}
use Rattle.csv.specs.Reading.{Reached, AreRecords, Ready, default_config, strip_bom, source_of}
use Rattle.csv.specs.Reading.{reader_config, reader_trim, reader_state, is_flexible}
use Rattle.csv.specs.declared.parser.State.{State}
use Rattle.csv.specs.declared.parser.State.TheVariants as states
use Rattle.csv.specs.declared.reader.Reader.{Reader}
use Rattle.csv.specs.declared.reader.Trim.TheVariants as trims
use Rattle.zh_csv.specs.Front.{most_bytes}

-- a record: its fields, each a list of bytes
abbrev pub Record : Type 0
Record = List (List ℕ)

-- the first record of each text: the names of the columns
abbrev pub names : Record
names = codes "municipality" ∷ codes "list" ∷ codes "number" ∷ codes "votes" ∷ []

-- the bytes of a record: those of its fields, and one more for each field, which is the comma or the record's end after it
abbrev pub record_size : Record → ℕ
record_size [] = 0
record_size (field ∷ fields) = length field + 1 + record_size fields

-- whether a record can be that of a row: it has four fields, and at most `most_bytes` bytes
abbrev pub may_be_row : Record → Bool
may_be_row fields = (length fields == 4) && nat_le (record_size fields) most_bytes

-- these are all records of a text
abbrev pub AreAll : List ℕ → List Record → Type 0
AreAll text records = AreRecords default_config states.StartRecord (strip_bom text) records

-- a text begins with these records
abbrev pub AreFirst : List ℕ → List Record → Type 0
AreFirst text records =
    (state : State) × (rest : List ℕ) × Reached default_config states.StartRecord (strip_bom text) records state rest

-- the reader has given these records of a text, and continues with the next one
pub record HasRead {R : Type 0} (remaining : R → Option (List ℕ)) (text : List ℕ) (records : List Record) (reader : Reader R) : Type 0 where
  pub config : reader_config reader ≡ default_config
  pub trim : reader_trim reader ≡ trims.None
  pub flexible : is_flexible reader ≡ true
  pub ready : Ready reader
  pub rest : List ℕ
  pub source : source_of remaining reader ≡ Some rest
  pub leaves : Reached default_config states.StartRecord (strip_bom text) records (reader_state reader) rest
