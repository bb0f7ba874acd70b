-- Writing a table of the set-up.
use Rattle.std.proofs.Common.{◌≡◌, subst, ℕ, List, [], ◌++◌, Some, Result, Ok, Err, MatchResult, Bool}
use Rattle.std.specs.Io.KnownBytes.{Appends}
use Rattle.zh_districts.specs.Canton.{Canton}
use Rattle.zh_tables.specs.Returns.{exceeds_load}
use Rattle.zh_tables.specs.Tables.{IsTableText}
use Rattle.zh_tables.specs.declared.fault.ListFault.TheVariants as lists
use Rattle.zh_tables.specs.declared.tables.Table.{Table}
use Rattle.zh_program.specs.List.{IsSplitIf, MayList, RefusesList}
use Rattle.zh_program.specs.Shown.{GivesShown}
use Rattle.zh_program.specs.declared.fault.TaskFault.{TaskFault}
use Rattle.zh_program.specs.declared.shown.Shown.{Shown}

module _ (canton : Canton) (table : Table) where
  -- A table that was made, with advice to split it if it is too long.
  pub may_list : (text : List ℕ) (exceeds : Bool) (result : Result Shown TaskFault) → IsTableText canton table text → exceeds ≡ exceeds_load canton table
      → GivesShown (IsSplitIf exceeds text) result → MatchResult result (MayList canton table) (RefusesList canton table)
  may_list text exceeds (Ok shown) made is split = (text, made, rw is at split)
  may_list text exceeds (Err fault) made is split = (lists.Memory, split, tt)

-- The contents of a new vector after a text was written to it.
pub made : (xs ys text : List ℕ) → xs ≡ [] → Appends (Some xs) (Some ys) text → ys ≡ text
made xs ys text none written = subst (λ (l : List ℕ). ys ≡ l ++ text) none written
