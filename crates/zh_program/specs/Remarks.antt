-- What is written of a remark.
use Rattle.std.specs.Prelude.{List, Option, ℕ}
use Rattle.std.specs.Io.KnownBytes.{Appends}
use Rattle.zh_file.specs.declared.world.Remark.{Remark}
use Rattle.zh_file.specs.declared.world.Remark.TheVariants.{Whole, Broken}
use Rattle.zh_program.specs.Load.{WritesPart}

-- The whole text is written, or a proper prefix of it.
abbrev pub BecameOf : Remark → Option (List ℕ) → Option (List ℕ) → List ℕ → Type 0
BecameOf Whole writer writer' text = Appends writer writer' text
BecameOf Broken writer writer' text = WritesPart writer writer' text
