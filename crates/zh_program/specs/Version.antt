-- Writing the version.
use Rattle.std.specs.Prelude.{ℕ, List, [], ◌∷◌, ◌++◌, Option, codes, Result, Ok, Err}
use Rattle.std.specs.Io.KnownBytes.{Appends}
use Rattle.zh_program.specs.Load.{WritesPart}
use Rattle.zh_program.specs.declared.fault.TaskFault.{TaskFault}
use Rattle.zh_program.specs.declared.fault.TaskFault.TheVariants as faults

-- The version line with its LF, which is 10.
abbrev pub version_line : List ℕ
version_line = codes "zhcount 1.0.0" ++ 10 ∷ []

-- The whole line is written, or a proper prefix of it.
abbrev pub WritesVersion : Option (List ℕ) → Option (List ℕ) → Result (Unit {0}) TaskFault → Type 0
WritesVersion writer writer' (Ok done) = Appends writer writer' version_line
WritesVersion writer writer' (Err faults.Write) = WritesPart writer writer' version_line
WritesVersion writer writer' (Err fault) = ⊥
