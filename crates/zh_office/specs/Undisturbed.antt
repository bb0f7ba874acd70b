-- The answers of an office whose device does not fail and which has numbers left.
use Rattle.std.specs.Prelude.{◌≡◌, ◌<◌, ◌-◌, ◌^◌, Bool, true, false, List, [], ◌∷◌, Ok, Err}
use Rattle.zh_commands.specs.declared.lines.Request.{Request}
use Rattle.zh_commands.specs.declared.lines.Request.TheVariants as requests
use Rattle.zh_commands.specs.declared.lines.BatchStep.TheVariants as steps
use Rattle.zh_commands.specs.declared.lines.DeskQuery.TheVariants as queries
use Rattle.zh_commands.specs.declared.replies.Reply.TheVariants.{Refused}
use Rattle.zh_commands.specs.declared.replies.Refusal.TheVariants as refusals
use Rattle.zh_returns.specs.declared.command.Format.TheVariants.{Two}
use Rattle.zh_ledger.specs.Submissions.{OnDisk}
use Rattle.zh_office.specs.declared.answer.Answer.{Answer}
use Rattle.zh_office.specs.declared.answer.Answer.TheVariants as answers
use Rattle.zh_office.specs.Office.{Office}
use Rattle.zh_office.specs.Exchanges.{Exchange, Given}
use Rattle.zh_office.specs.Exchanges.Given.{line, text}

-- the replies because of the device, now or earlier, or of numbers that are used up
abbrev pub is_disturbed : Answer → Bool
is_disturbed (answers.Reply (Refused refusals.Device)) = true
is_disturbed (answers.Reply (Refused refusals.ReopenDisk)) = true
is_disturbed (answers.Reply (Refused refusals.Spent)) = true
is_disturbed answer = false

-- the reply because of refused memory
abbrev pub is_memory : Answer → Bool
is_memory (answers.Reply (Refused refusals.Memory)) = true
is_memory answer = false

-- the lines that can be answered `memory`: `row`, `sheet` and `final`
abbrev pub RequestTakesMemory : Request → Type 0
RequestTakesMemory (requests.Batch (steps.Row row)) = Unit {0}
RequestTakesMemory (requests.Query queries.Sheet) = Unit {0}
RequestTakesMemory (requests.Query queries.Final) = Unit {0}
RequestTakesMemory request = ⊥

abbrev pub TakesMemory : Given → Type 0
TakesMemory (line bytes (Ok read)) = RequestTakesMemory read.request
TakesMemory (line bytes (Err fault)) = ⊥
TakesMemory (text bytes loaded) = Unit {0}

-- the answer to this is not `device`, `reopen-disk` or `spent`, and it is `memory` only for a text or one of these lines
pub record IsUndisturbed (given : Given) (answer : Answer) : Type 0 where
  pub calm : is_disturbed answer ≡ false
  pub memory : is_memory answer ≡ true → TakesMemory given

-- The office had met no fault of the device and has a slot of format Two, and no call of its disk has failed since. At the end a number
-- is left for the failures, for a command and for a switch.
pub record MeetsNoFault (old new : OnDisk Office) : Type 0 where
  pub whole : old.holder.ledger.store.broken ≡ false
  pub format : old.holder.ledger.format ≡ Two
  pub failures : new.history.failures ≡ old.history.failures
  pub counted : new.history.failures < 2 ^ 64 - 1
  pub accepted : new.holder.ledger.tally.accepted < 2 ^ 64 - 1
  pub generation : new.holder.ledger.store.generation < 2 ^ 64 - 1

-- each of these exchanges has such an answer
abbrev pub AreUndisturbed : List Exchange → Type 0
AreUndisturbed [] = Unit {0}
AreUndisturbed (x ∷ xs) = IsUndisturbed x.given x.answer × AreUndisturbed xs
