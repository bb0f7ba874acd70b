-- What is wrong with a record of an export.
use Rattle.std.specs.Prelude.{ℕ, List, Option, Some, None, codes}
use Rattle.zh_csv.specs.declared.batch_reader.LoadFault.{LoadFault}
use Rattle.zh_csv.specs.declared.batch_reader.LoadFault.TheVariants as faults
use Rattle.zh_returns.specs.declared.judgement.Reason.TheVariants as reasons
use Rattle.zh_csv.specs.declared.held_sums.HeldFault.{HeldFault}
use Rattle.zh_csv.specs.declared.held_sums.HeldFault.TheVariants as of_held

-- what is wrong with the record, given the fault; `None` if memory was refused or the reader failed, since no record is wrong then
abbrev pub named : LoadFault → Option HeldFault
named faults.Csv = Some of_held.Csv
named faults.Syntax = Some of_held.Syntax
named (faults.Judged reasons.Municipality) = Some of_held.Municipality
named (faults.Judged reasons.List) = Some of_held.List
named (faults.Judged reason) = Some of_held.Votes
named (faults.Row fault) = Some of_held.Twice
named faults.Memory = None
named faults.Read = None

-- the name of the fault in reports
abbrev pub held_name : HeldFault → List ℕ
held_name of_held.Csv = codes "held csv"
held_name of_held.Syntax = codes "held syntax"
held_name of_held.Municipality = codes "held municipality"
held_name of_held.List = codes "held list"
held_name of_held.Votes = codes "held votes"
held_name of_held.Twice = codes "held twice"
