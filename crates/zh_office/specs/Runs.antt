-- What an office does when it is given a line or a text, or several one after another.
use Rattle.std.specs.Prelude.{◌≡◌, ◌≤◌, ℕ, Bool, List, [], ◌∷◌, Option, Result, IsTrue, true, false}
use Rattle.zh_commands.specs.Lines.{ParsesAs}
use Rattle.zh_commands.specs.declared.lines.Line.{Line}
use Rattle.zh_commands.specs.declared.lines.LineFault.{LineFault}
use Rattle.zh_commands.specs.declared.replies.Reply.{Reply}
use Rattle.zh_csv.specs.Load.{LoadsFrom}
use Rattle.zh_csv.specs.declared.batch_reader.LoadFault.{LoadFault}
use Rattle.zh_disk.specs.History.{HasRisen}
use Rattle.zh_ledger.specs.Ledger.{Ledger}
use Rattle.zh_ledger.specs.Submissions.{OnDisk}
use Rattle.zh_returns.specs.declared.row.Row.{Row}
use Rattle.zh_office.specs.Exchanges.{Exchange, Given, held_then}
use Rattle.zh_office.specs.Exchanges.Given.{line, text}
use Rattle.zh_office.specs.Requests.{Acts}
use Rattle.zh_office.specs.declared.answer.Answer.{Answer}
use Rattle.zh_office.specs.declared.answer.Answer.TheVariants as answers
use Rattle.zh_office.specs.Office.{MayAnswer, Office, command_taken, its_ledger}

-- What holds of a ledger and the history of its disk after any calls: a disk that is honest now was honest before, the count of failures
-- does not fall, and it has risen if the ledger broke.
pub record Continues (old new : OnDisk Ledger) : Type 0 where
  pub kept : IsTrue new.history.honest → IsTrue old.history.honest
  pub later : old.history.failures ≤ new.history.failures
  pub cause : old.holder.store.broken ≡ false → new.holder.store.broken ≡ true → HasRisen old.history.failures new.history.failures

-- how the office reads this: a line parses as this; a text, unless the device failed before, loads as this
abbrev pub IsReadAs : Office → Given → Type 0
IsReadAs office (line bytes reading) = ParsesAs bytes reading
IsReadAs office (text bytes loaded) =
    office.ledger.store.broken ≡ false → (failed : Bool) × LoadsFrom office.ledger.tally.canton bytes failed loaded

-- the office takes its turn, and this exchange says what it is given and answers; then the office and its disk are `new`
pub record Turn (old : OnDisk Office) (x : Exchange) (new : OnDisk Office) : Type 0 where
  pub reads : IsReadAs old.holder x.given
  pub command : x.command ≡ command_taken old.holder x.given
  pub acts : Acts (its_ledger old) x.command (MayAnswer old.holder x.given) x.answer (its_ledger new)
  pub held : new.holder.held ≡ held_then old.holder.held x.given x.answer
  pub count : x.count ≡ new.holder.ledger.tally
  pub disk : x.disk ≡ new.history.trail

-- these exchanges come one after another, from the office `old` to the office `new`
abbrev pub Runs : OnDisk Office → List Exchange → OnDisk Office → Type 0
Runs old [] new = new ≡ old
Runs old (x ∷ xs) new = (mid : OnDisk Office) × Turn old x mid × Runs mid xs new

-- the exchange in which the office `old` is given this and answers that, and is then `new`
abbrev pub exchange : OnDisk Office → Given → Answer → OnDisk Office → Exchange
exchange old given answer new = record {
  given = given;
  command = command_taken old.holder given;
  answer = answer;
  count = new.holder.ledger.tally;
  disk = new.history.trail;
}

-- the office may give this answer to the bytes of a line
pub record LineTurn (old : OnDisk Office) (bytes : List ℕ) (answer : Answer) (new : OnDisk Office) : Type 0 where
  pub reading : Result Line LineFault
  pub turn : Turn old (exchange old (line bytes reading) answer new) new

-- the office may give this reply to a loaded text, whose reader failed or not
pub record LoadTurn (old : OnDisk Office) (bytes : Option (List ℕ)) (failed : Bool) (reply : Reply) (new : OnDisk Office) : Type 0 where
  pub loaded : Result (List Row) LoadFault
  pub loads : old.holder.ledger.store.broken ≡ false → LoadsFrom old.holder.ledger.tally.canton bytes failed loaded
  pub turn : Turn old (exchange old (text bytes loaded) (answers.Reply reply) new) new
