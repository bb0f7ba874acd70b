-- What an office is given, and its possible answers.
use Rattle.std.specs.Prelude.{◌≡◌, Option, Ok, Err}
use Rattle.zh_returns.specs.declared.command.Command.{Command}
use Rattle.zh_office.specs.DeskBatches as desks
use Rattle.zh_ledger.specs.Ledger.{Ledger}
use Rattle.zh_ledger.specs.Submissions.{OnDisk, of_ledger}
use Rattle.zh_commands.specs.declared.lines.LineFault.TheVariants as faults
use Rattle.zh_commands.specs.declared.replies.Reply.TheVariants.{Refused}
use Rattle.zh_commands.specs.declared.replies.Refusal.TheVariants as refusals
use Rattle.zh_office.specs.Exchanges.{Given, command_given}
use Rattle.zh_office.specs.Exchanges.Given.{line, text}
use Rattle.zh_office.specs.Load.{command_loaded, load_reply}
use Rattle.zh_office.specs.Requests.{MayAnswerWhere}
use Rattle.zh_office.specs.declared.answer.Answer.{Answer}
use Rattle.zh_office.specs.declared.answer.Answer.TheVariants as answers

-- the count on its disk, and the desks' batches, which are only in memory
pub record Office : Type 0 where
  pub ledger : Ledger
  pub held : desks.Held

-- the ledger of an office, on the same disk
abbrev pub its_ledger : OnDisk Office → OnDisk Ledger
its_ledger = of_ledger (λ o. o.ledger)

-- the command that this gives, if any; after a fault of the device, a text gives none
abbrev pub command_taken : Office → Given → Option Command
command_taken office (line bytes reading) = command_given office.held (line bytes reading)
command_taken office (text bytes loaded) = command_loaded office.ledger.store.broken loaded

-- the possible answers to what gives no command
abbrev pub MayAnswer : Office → Given → Answer → Type 0
MayAnswer office (line bytes (Err faults.Syntax)) answer = answer ≡ answers.Reply (Refused refusals.Syntax)
MayAnswer office (line bytes (Err faults.Desk)) answer = answer ≡ answers.Reply (Refused refusals.Desk)
MayAnswer office (line bytes (Ok read)) answer = MayAnswerWhere office.ledger.store.broken office.ledger.tally office.held read answer
MayAnswer office (text bytes loaded) answer = answer ≡ answers.Reply (load_reply office.ledger.store.broken loaded)
