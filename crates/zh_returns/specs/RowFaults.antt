-- Why a batch does not take a row, apart from refused memory.
use Rattle.std.specs.Prelude.{ℕ, nat_le, nat_lt, if◌then◌else◌, List, length, codes, Option, Some, None}
use Rattle.zh_districts.specs.Canton.{Canton}
use Rattle.zh_districts.specs.Misplaced.{misplaced}
use Rattle.zh_districts.specs.declared.setup.Misplaced.{Misplaced}
use Rattle.zh_returns.specs.declared.row.Row.{Row}
use Rattle.zh_returns.specs.Rows.{row_key, has_key, most_rows}
use Rattle.zh_returns.specs.Judgement.{reason_of}
use Rattle.zh_returns.specs.Limits.{most_votes}
use Rattle.zh_returns.specs.declared.judgement.Reason.{Reason}
use Rattle.zh_returns.specs.declared.judgement.Reason.TheVariants as reasons
use Rattle.zh_returns.specs.declared.row.RowFault.{RowFault}
use Rattle.zh_returns.specs.declared.row.RowFault.TheVariants.{Twice, BatchFull}

-- the first reason that applies: the list does not stand there, or there are too many votes
abbrev pub unfit_at : Option Misplaced → ℕ → Option Reason
unfit_at (Some place) votes = Some (reason_of place)
unfit_at None votes = if nat_lt most_votes votes then Some reasons.Votes else None

-- why a row is refused whatever the batch contains: the first reason that applies
abbrev pub unfit : Canton → Row → Option Reason
unfit canton row = unfit_at (misplaced canton row.municipality row.list) row.votes

-- why a batch of these rows does not take one more: the first reason that applies
abbrev pub fault_in : List Row → Row → Option RowFault
fault_in rows row = if has_key rows (row_key row) then Some Twice else if nat_le most_rows (length rows) then Some BatchFull else None

-- the name of a fault, as replies spell it
abbrev pub row_fault_name : RowFault → List ℕ
row_fault_name Twice = codes "twice"
row_fault_name BatchFull = codes "batchfull"
