-- The answer to a text that is loaded.
use Rattle.std.specs.Prelude.{Bool, true, false, List, Option, Some, None, Result, Ok, Err}
use Rattle.zh_returns.specs.declared.command.Command.{Command}
use Rattle.zh_returns.specs.declared.row.Row.{Row}
use Rattle.zh_commands.specs.declared.replies.Reply.{Reply}
use Rattle.zh_commands.specs.declared.replies.Reply.TheVariants.{Same, Refused}
use Rattle.zh_commands.specs.declared.replies.Refusal.{Refusal}
use Rattle.zh_commands.specs.declared.replies.Refusal.TheVariants as refusals
use Rattle.zh_csv.specs.declared.batch_reader.LoadFault.{LoadFault}
use Rattle.zh_csv.specs.declared.batch_reader.LoadFault.TheVariants as faults
use Rattle.zh_office.specs.Answers.{batch_of}

-- the refusal of a text, or of a desk's row, for this fault; a failed read is reported as `csv`
abbrev pub load_refusal : LoadFault → Refusal
load_refusal faults.Csv = refusals.Csv
load_refusal faults.Syntax = refusals.Syntax
load_refusal (faults.Judged reason) = refusals.Judged reason
load_refusal (faults.Row fault) = refusals.Row fault
load_refusal faults.Memory = refusals.Memory
load_refusal faults.Read = refusals.Csv

-- the command of a loading, if there is one: all rows of the text, as one batch of no desk; after a fault of the device there is none
abbrev pub command_loaded : Bool → Result (List Row) LoadFault → Option Command
command_loaded true loaded = None
command_loaded false (Err fault) = None
command_loaded false (Ok rows) = batch_of 0 (Some rows)

-- the reply without a command: the disk must be reopened, the text is refused, or the text has no rows
abbrev pub load_reply : Bool → Result (List Row) LoadFault → Reply
load_reply true loaded = Refused refusals.ReopenDisk
load_reply false (Err fault) = Refused (load_refusal fault)
load_reply false (Ok rows) = Same
