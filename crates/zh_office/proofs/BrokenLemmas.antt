-- The answers after the device has failed under the office.
use Rattle.std.proofs.Common.{◌≡◌, Bool, true, Option, Some, None, refl, sym, subst}
use Rattle.zh_returns.specs.declared.command.Command.{Command}
use Rattle.zh_commands.specs.declared.lines.Line.{Line}
use Rattle.zh_commands.specs.declared.replies.Reply.TheVariants.{Refused}
use Rattle.zh_commands.specs.declared.replies.Refusal.TheVariants as refusals
use Rattle.zh_disk.proofs.CallerLemmas.{no_call}
use Rattle.zh_ledger.specs.Ledger.{Ledger, MayResultWhere}
use Rattle.zh_ledger.specs.Submissions.{OnDisk, Submission, nothing}
use Rattle.zh_ledger.proofs.CallerLemmas.{outside_untouched}
use Rattle.zh_ledger.specs.declared.outcome.Outcome.TheVariants as outcomes
use Rattle.zh_office.specs.DeskBatches.{Held}
use Rattle.zh_returns.specs.Tally.{Tally}
use Rattle.zh_office.specs.Requests.{Acts, MayAnswerWhere}
use Rattle.zh_office.specs.declared.answer.Answer.TheVariants as answers

-- a command is no longer judged
broken_submission : (old : OnDisk Ledger) (command : Command) → old.holder.store.broken ≡ true → Submission old command outcomes.Broken old
broken_submission old command broken = record {
  results = subst (λ (b : Bool). MayResultWhere b old.holder command outcomes.Broken) (sym broken) refl;
  after = refl;
  call = no_call refl (λ honest. record { leaves = refl; outside = outside_untouched old.history.trail old.history.trail refl });
  log = nothing;
  logs = refl;
}

-- whatever a line asks for, the disk must be reopened
pub broken_acts : (old : OnDisk Ledger) (command : Option Command) (tally : Tally) (held : Held) (line : Line) → old.holder.store.broken ≡ true
    → Acts old command (MayAnswerWhere old.holder.store.broken tally held line) (answers.Reply (Refused refusals.ReopenDisk)) old
broken_acts old None tally held line broken =
    (subst (λ (b : Bool). MayAnswerWhere b tally held line (answers.Reply (Refused refusals.ReopenDisk))) (sym broken) refl, refl)
broken_acts old (Some command) tally held line broken =
    record { outcome = outcomes.Broken; submission = broken_submission old command broken; reply = refl }
