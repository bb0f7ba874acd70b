-- A reader that notes whether a read failed.
use Rattle.std.specs.Prelude.{Bool}
use Rattle.zh_csv.specs.declared.noted_reader.NotedReader.{NotedReader}

-- the underlying reader
abbrev pub inner_reader : {R : Type 0} → NotedReader R → R
inner_reader reader = reader.inner

-- whether a read failed
abbrev pub has_failed : {R : Type 0} → NotedReader R → Bool
has_failed reader = reader.has_failed
