-- The promise of the program about an office: each command, each answer, each sheet, and each moment of its disk.
use Rattle.std.specs.Prelude.{◌≡◌, ◌≢◌, ℕ, Bool, List, ◌∷◌, [], ◌++◌, length, None, IfSome}
use Rattle.zh_disk.specs.Disk.{Trail, IsImage}
use Rattle.zh_returns.specs.declared.command.Command.{Command}
use Rattle.zh_returns.specs.Judgement.{judge}
use Rattle.zh_returns.specs.Tally.{Tally}
use Rattle.zh_returns.specs.declared.judgement.Verdict.TheVariants as verdicts
use Rattle.zh_office.specs.DeskBatches.{no_batches}
use Rattle.zh_commands.specs.declared.replies.Reply.TheVariants.{Stored, Same}
use Rattle.zh_totals.specs.Counting.{totals_of}
use Rattle.zh_sheet.specs.Distribution.{Distribution}
use Rattle.zh_sheet.specs.Refusals.{LeaveNoSeats}
use Rattle.zh_ledger.specs.Images.{HasSome}
use Rattle.zh_ledger.specs.Stands.{Holds}
use Rattle.zh_office.specs.declared.answer.Answer.TheVariants.{Reply, Sheet}
use Rattle.zh_office.specs.Exchanges.{EachIn, Exchange, IsReadRight, command_given, count_by, disk_by, held_by, log_by, log_of}
use Rattle.zh_program.specs.Order.{AnswersBeforeReading, Conversation, KeepsWhatIsTold, Throughout}
use Rattle.zh_program.specs.Sheets.{FollowsFrom, IsTie}
use Rattle.zh_program.specs.Stopped.{Always, OpensTo}

-- The disk of a task held this count. If the task is stopped at any moment, even within a write or a sync, an office that is then
-- opened on the disk holds the count after a prefix, in order, of the accepted commands. The prefix includes every acknowledged
-- command. Every sheet is that of the count at its line, and is right. A command is acknowledged if it is answered `stored`, and
-- accepted if it is answered `stored` or `device`. Not said here: when a line is refused, or a run fails; when a sheet is final,
-- which tie it is, and what other answers show. `before` is the disk before the opening; the conversation begins when the disk was
-- opened, or the opening was refused, and goes to the end.
pub record Headline (tally : Tally) (before : Trail) (talk : Conversation) (exchanges : List Exchange) : Type 0 where
  -- each line and each text is read by its rules and gives the command that it says
  pub read : EachIn exchanges (λ prior x. IsReadRight tally.canton x.given)
  pub commands : EachIn exchanges (λ prior x. x.command ≡ command_given (held_by no_batches prior) x.given)
  -- a command is accepted only if the count before it accepts it, and if all commands accepted before it are acknowledged
  pub accepted : EachIn exchanges (λ prior x. (command : Command) → (log_by x.command x.answer).accepted ≡ command ∷ []
      → (judge (count_by tally (log_of prior)) command ≡ verdicts.Accept) × ((log_of prior).acknowledged ≡ length (log_of prior).accepted))
  -- the count has the acknowledged commands, but not one that is answered `device`
  pub counted : EachIn exchanges (λ prior x. x.count ≡ count_by tally (log_of (prior ++ x ∷ [])))
  -- only a command is answered `stored`, and it is answered `same` only if the count before it judges it the same
  pub stored : EachIn exchanges (λ prior x. (number : ℕ) → x.answer ≡ Reply (Stored number) → x.command ≢ None)
  pub same : EachIn exchanges (λ prior x. x.answer ≡ Reply Same
      → IfSome x.command (λ command. judge (count_by tally (log_of prior)) command ≡ verdicts.Same))
  -- a stop within the opening leaves the count as it was, even if the opening migrates the disk or is refused
  pub stopped_opening : Always (Holds tally) before talk.first.disk
  -- a stop between two exchanges leaves at least the commands acknowledged by then, and at most those accepted; a stop within the
  -- work on one leaves what a stop before it can leave, or the same with its command
  pub stopped_between : (prior rest : List Exchange) → exchanges ≡ prior ++ rest
      → (c : List ℕ) → IsImage (disk_by talk.first.disk prior).now c
      → HasSome tally (log_of prior).accepted (log_of prior).acknowledged c
  pub stopped_within : EachIn exchanges (λ prior x. Always
      (HasSome tally (log_of (prior ++ x ∷ [])).accepted (log_of prior).acknowledged) (disk_by talk.first.disk prior) x.disk)
  -- after the last exchange nothing changes the disk
  pub end : disk_by talk.first.disk exchanges ≡ talk.last.disk
  -- an answer is written only after the disk has what it acknowledges; at no moment of the disk does an image have more than one
  -- accepted command whose answer is not written in full; the input is read only after all complete lines that were read before
  -- are answered
  pub order : Throughout (λ first a b. KeepsWhatIsTold tally exchanges first a b × AnswersBeforeReading exchanges first a b) talk
  -- about bytes, not runs: an image that holds a count opens to it, and to no other count of its set-up
  pub reopened : (count : Tally) (c : List ℕ) → Holds count c → OpensTo count c
  -- every sheet follows strictly from the count at its line, so at a tie there is none; a tie is answered only if no sheet is right
  pub sheets : EachIn exchanges (λ prior x. (sheet : Distribution) (is_final : Bool) → x.answer ≡ Sheet sheet is_final
      → FollowsFrom (totals_of x.count) sheet)
  pub ties_are_true : EachIn exchanges (λ prior x. IsTie x.answer → LeaveNoSeats (totals_of x.count))
