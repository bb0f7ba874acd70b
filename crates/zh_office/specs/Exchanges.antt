-- What an office is given on its disk, one thing after the other, and what it answers.
use Rattle.std.specs.Prelude.{◌≡◌, ◌<◌, ℕ, List, [], ◌∷◌, ◌++◌, flat_map, fold, length, map, take}
use Rattle.std.specs.Prelude.{Option, Some, None, IfSome, Result, Ok, Err}
use Rattle.std.specs.Io.KnownBytes.{Appends}
use Rattle.zh_disk.specs.Disk.{Trail}
use Rattle.zh_districts.specs.Canton.{Canton}
use Rattle.zh_returns.specs.declared.command.Command.{Command}
use Rattle.zh_returns.specs.declared.row.Row.{Row}
use Rattle.zh_returns.specs.Step.{after}
use Rattle.zh_returns.specs.Tally.{Tally}
use Rattle.zh_office.specs.DeskBatches.{Held, rows_of}
use Rattle.zh_commands.specs.Lines.{ParsesAs, desk_of}
use Rattle.zh_commands.specs.Replies as replies
use Rattle.zh_commands.specs.declared.lines.Line.{Line}
use Rattle.zh_commands.specs.declared.lines.LineFault.{LineFault}
use Rattle.zh_commands.specs.declared.replies.Reply.TheVariants.{Stored, Refused}
use Rattle.zh_commands.specs.declared.replies.Refusal.TheVariants as refusals
use Rattle.zh_csv.specs.Load.{AreLoaded, fields}
use Rattle.zh_csv.specs.Records.{AreAll, names}
use Rattle.zh_csv.specs.declared.batch_reader.LoadFault.{LoadFault}
use Rattle.zh_ledger.specs.Submissions.{Log, nothing, followed_by}
use Rattle.zh_office.specs.Answers.{batch_of, command_of, held_after}
use Rattle.zh_office.specs.declared.answer.Answer.{Answer}
use Rattle.zh_office.specs.declared.answer.Answer.TheVariants.{Reply, Sheet}
use Rattle.zh_sheet_text.specs.SheetText.{sheet_text}

-- A line's bytes and what it parses as; or a loaded text, whose bytes may be unknown, and what it loads.
pub data Given : Type 0 where
  line : List ℕ → Result Line LineFault → Given
  text : Option (List ℕ) → Result (List Row) LoadFault → Given

-- The line parses as this; or the text, if its bytes are known, has the column names and then these rows, which load as a batch.
abbrev pub IsReadRight : Canton → Given → Type 0
IsReadRight canton (line bytes reading) = ParsesAs bytes reading
IsReadRight canton (text bytes (Ok rows)) = AreLoaded canton rows × IfSome bytes (λ known. AreAll known (names ∷ map fields rows))
IsReadRight canton (text bytes (Err fault)) = Unit {0}

-- The command that it gives, if any: for a line by the desks' batches, for a text all rows as one batch.
abbrev pub command_given : Held → Given → Option Command
command_given held (line bytes (Ok read)) = command_of read.desk (rows_of held read.desk) read.request
command_given held (text bytes (Ok rows)) = batch_of 0 (Some rows)
command_given held given = None

-- The desks' batches after this answer.
abbrev pub held_then : Held → Given → Answer → Held
held_then held (line bytes (Ok read)) answer = held_after held read answer
held_then held given answer = held

-- The text of an answer to this desk, at this number of accepted commands.
abbrev pub answer_text : ℕ → ℕ → Answer → List ℕ
answer_text desk accepted (Reply reply) = replies.reply_text desk reply
answer_text desk accepted (Sheet sheet is_final) = sheet_text sheet desk is_final accepted

-- The text of the answer, at this number of accepted commands. A line's answer names its desk, a text's does not; 10 is LF.
abbrev pub answer_to_given : Given → ℕ → Answer → List ℕ
answer_to_given (line bytes reading) accepted answer = answer_text (desk_of bytes) accepted answer
answer_to_given (text bytes loaded) accepted (Reply reply) = replies.answer reply ++ 10 ∷ []
answer_to_given (text bytes loaded) accepted (Sheet sheet is_final) = []

-- The bytes of a line; None for a text.
abbrev pub line_in : Given → Option (List ℕ)
line_in (line bytes reading) = Some bytes
line_in (text bytes loaded) = None

-- One input, the command that it gave, if any, and its answer; then the count and the disk.
pub record Exchange : Type 0 where
  pub given : Given
  pub command : Option Command
  pub answer : Answer
  pub count : Tally
  pub disk : Trail

-- P holds for each of these exchanges and those before it.
abbrev pub EachIn : List Exchange → (List Exchange → Exchange → Type 0) → Type 0
EachIn exchanges P = (prior rest : List Exchange) (x : Exchange) → exchanges ≡ prior ++ x ∷ rest → P prior x

-- What an answer adds to the log: `stored` acknowledges the command; after `device` the command is accepted, and the disk may
-- or may not have it.
abbrev pub log_by : Option Command → Answer → Log
log_by None answer = nothing
log_by (Some command) (Reply (Stored number)) = record { accepted = command ∷ []; acknowledged = 1 }
log_by (Some command) (Reply (Refused refusals.Device)) = record { accepted = command ∷ []; acknowledged = 0 }
log_by (Some command) answer = nothing

-- The accepted commands, in order, and how many of them were acknowledged.
abbrev pub log_of : List Exchange → Log
log_of [] = nothing
log_of (x ∷ xs) = followed_by (log_by x.command x.answer) (log_of xs)

-- The count after the acknowledged commands.
abbrev pub count_by : Tally → Log → Tally
count_by tally log = after tally (take log.acknowledged log.accepted)

-- The desks' batches after these exchanges.
abbrev pub held_by : Held → List Exchange → Held
held_by = fold (λ held x. held_then held x.given x.answer)

-- The disk after these exchanges.
abbrev pub disk_by : Trail → List Exchange → Trail
disk_by = fold (λ disk x. x.disk)

-- The text of the answer in an exchange.
abbrev pub text_of : Exchange → List ℕ
text_of x = answer_to_given x.given x.count.accepted x.answer

-- The texts of the answers in these exchanges, one after the other.
abbrev pub texts : List Exchange → List ℕ
texts = flat_map text_of

-- The lines of these exchanges; None for a text.
abbrev pub lines_given : List Exchange → List (Option (List ℕ))
lines_given = map (λ x. line_in x.given)

-- Only a proper prefix of the last answer in these exchanges is written; the answers before it are written in full.
pub record IsCutShort (old new : Option (List ℕ)) (exchanges : List Exchange) : Type 0 where
  pub whole : List Exchange
  pub last : Exchange
  pub all : exchanges ≡ whole ++ last ∷ []
  pub front : ℕ
  pub part : front < length (text_of last)
  pub written : Appends old new (texts whole ++ take front (text_of last))
