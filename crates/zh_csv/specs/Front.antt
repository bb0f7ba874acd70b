-- How much of a text of records is read: all of it, or up to where a record has more bytes than are read of one. 10 and 13 end a record, 34
-- is the quotation mark, 44 the comma; 239, 187 and 191 are the byte order mark.
use Rattle.std.specs.Prelude.{ℕ, zero, suc, ◌==◌, ◌||◌, ◌*◌, if◌then◌else◌}
use Rattle.std.specs.Prelude.{List, [], ◌∷◌}
use Rattle.zh_csv.specs.declared.front_reader.Point.{Point}
use Rattle.zh_csv.specs.declared.front_reader.Point.TheVariants.{Start, FirstOfMark, SecondOfMark, Between, Field, Plain, Quoted, Closed}

-- The most bytes of a record: those of its fields, and one more for each field, which is the comma or the record's end after it. An
-- accepted row has at most 44, in four numerals of ten digits; the names of the columns have 31.
abbrev pub most_bytes : ℕ
most_bytes = 1000

-- The most bytes that are read of a record. A field can be in quotation marks, and each of its bytes can be one, which is written twice.
abbrev pub most_read : ℕ
most_read = 3 * most_bytes

-- the state after a byte in a field
abbrev pub in_field : ℕ → Point
in_field byte = if byte == 44 then Field else if (byte == 13) || (byte == 10) then Between else Plain

-- the state after a byte at the start of a field or of a record, or after a quotation mark inside quotation marks
abbrev pub at_field : ℕ → Point
at_field byte = if byte == 34 then Quoted else in_field byte

-- the state after a byte
abbrev pub point_after : Point → ℕ → Point
point_after Start byte = if byte == 239 then FirstOfMark else at_field byte
point_after FirstOfMark byte = if byte == 187 then SecondOfMark else in_field byte
point_after SecondOfMark byte = if byte == 191 then Between else in_field byte
point_after Quoted byte = if byte == 34 then Closed else Quoted
point_after Plain byte = in_field byte
point_after point byte = at_field byte

-- how many more bytes of the current record are read; a record that has ended is followed by a new one
abbrev pub left_at : ℕ → Point → ℕ → ℕ
left_at most Between left = most
left_at most point left = left

-- what is read of a text from a state on, with `left` more bytes of the current record, and at most `most` of each further record
unfoldable pub front : ℕ → Point → ℕ → List ℕ → List ℕ
front most point left [] = []
front most point zero (byte ∷ text) = []
front most point (suc left) (byte ∷ text) = byte ∷ front most (point_after point byte) (left_at most (point_after point byte) left) text

-- the front of a text: what is read of it
abbrev pub front_of : List ℕ → List ℕ
front_of text = front most_read Start most_read text
