-- Writing a table of the set-up.
use Rattle.std.specs.Prelude.{◌≡◌, ◌⊎◌, ℕ, Bool, true, false, List, [], ◌∷◌, ◌++◌, codes, Result, IsErrAnd}
use Rattle.zh_districts.specs.Canton.{Canton}
use Rattle.zh_tables.specs.Returns.{exceeds_load}
use Rattle.zh_tables.specs.Tables.{IsTableText, RefusesTable}
use Rattle.zh_tables.specs.declared.fault.ListFault.{ListFault}
use Rattle.zh_tables.specs.declared.fault.ListFault.TheVariants as lists
use Rattle.zh_tables.specs.declared.tables.Table.{Table}
use Rattle.zh_program.specs.Shown.{Shows}
use Rattle.zh_program.specs.Texts.{ReadsText, UsesTexts, a_setup}
use Rattle.zh_program.specs.World.{Known, WorldOf}
use Rattle.zh_program.specs.declared.fault.TaskFault.{TaskFault}
use Rattle.zh_program.specs.declared.fault.TaskFault.TheVariants as faults
use Rattle.zh_program.specs.declared.shown.Shown.{Shown}
use Rattle.zh_program.specs.declared.shown.Shown.TheVariants.{Text, Advised}

-- Why a table is not made in memory, as the fault of the task: memory was refused, the seats were refused, or the set-up does
-- not have the part.
abbrev pub RefusedAs : ListFault → TaskFault → Type 0
RefusedAs lists.Memory e = e ≡ faults.Memory
RefusedAs lists.Write e = e ≡ faults.Memory
RefusedAs why e = e ≡ faults.Table why

-- The fault of a task if the table of this set-up can't be made.
abbrev pub RefusesList : Canton → Table → TaskFault → Type 0
RefusesList canton table fault = (why : ListFault) × RefusedAs why fault × RefusesTable canton table why

-- The line that says how to split a table with more returns than one load takes, with its LF, which is 10.
abbrev pub advice : List ℕ
advice = codes "zhcount: more than 1,000 returns, to be split by --constituency or --municipality" ++ 10 ∷ []

-- This text, with advice to split it if it is too long.
abbrev pub IsSplitIf : Bool → List ℕ → Shown → Type 0
IsSplitIf true text (Advised written line) = (written.items ≡ text) × (line.items ≡ advice)
IsSplitIf false text (Text written) = written.items ≡ text
IsSplitIf exceeds text shown = ⊥

-- What may be shown of a table of this set-up.
abbrev pub MayList : Canton → Table → Shown → Type 0
MayList canton table shown = (text : List ℕ) × IsTableText canton table text × IsSplitIf (exceeds_load canton table) text shown

-- A table of this set-up is shown; or its making fails and nothing is written.
abbrev pub Lists : (of : Known) → Table → Canton → WorldOf of → WorldOf of → Result (Unit {0}) TaskFault → Type 0
Lists of table canton old new result =
    (IsErrAnd result (RefusesList canton table) × (new ≡ old)) ⊎ Shows of (MayList canton table) old new result

-- A table of the set-up at this path is written, or the set-up or the table has a fault.
abbrev pub Listed : (of : Known) → List ℕ → Table → WorldOf of → WorldOf of → Result (Unit {0}) TaskFault → Type 0
Listed of path table = UsesTexts of (ReadsText of.files a_setup path) (Lists of table)
