-- Records of comma-separated text, as the crate `csv` writes them with its default settings: a comma between fields, quotes around a field
-- that needs them, a line feed after each record.
use Rattle.std.specs.Prelude.{◌≡◌, ℕ, List, Option, false}
use Rattle.std.specs.Io.KnownBytes.{Appends}
use Rattle.csv.specs.Writing.{default_writer, row_text, text_written, writer_setup, fields_written, has_written}
use Rattle.csv.specs.declared.writer.Writer.{Writer}

-- a record: its fields, each a list of bytes
abbrev pub TableRecord : Type 0
TableRecord = List (List ℕ)

-- the text of a record, with its line feed
abbrev pub record_text : TableRecord → List ℕ
record_text fields = row_text default_writer fields

-- a writer with the default settings, between two records
pub record IsBetweenRecords {W : Type 0} (writer : Writer W) : Type 0 where
  pub setup : writer_setup writer ≡ default_writer
  pub fields : fields_written writer ≡ 0
  pub wrote : has_written writer ≡ false

-- this text was written, as far as the bytes of the underlying writer are known, and the writer is between two records again
pub record PutsText {W : Type 0} (contents : W → Option (List ℕ)) (text : List ℕ) (old new : Writer W) : Type 0 where
  pub written : Appends (text_written contents old) (text_written contents new) text
  pub ready : IsBetweenRecords new

-- since it was opened on an underlying writer that held `under`, the writer has written this text; it is between two records
pub record HasWritten {W : Type 0} (contents : W → Option (List ℕ)) (under : Option (List ℕ)) (text : List ℕ) (writer : Writer W)
    : Type 0 where
  pub written : Appends under (text_written contents writer) text
  pub ready : IsBetweenRecords writer
