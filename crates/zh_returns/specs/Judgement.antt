-- The verdict on a command: the first case that applies decides.
use Rattle.std.specs.Prelude.{ℕ, ◌+◌, Bool, true, false, not, nat_lt, ◌==◌, if◌then◌else◌, Option, Some, None, List, map, unwrap_or}
use Rattle.std.specs.List.{list_any, find}
use Rattle.std.specs.FinSet as set
use Rattle.zh_districts.specs.Canton.{has_municipality}
use Rattle.zh_districts.specs.Misplaced.{misplaced}
use Rattle.zh_districts.specs.declared.setup.Misplaced.{Misplaced}
use Rattle.zh_districts.specs.declared.setup.Misplaced.TheVariants as places
use Rattle.zh_returns.specs.declared.command.Command.{Command}
use Rattle.zh_returns.specs.declared.command.Command.TheVariants as commands
use Rattle.zh_returns.specs.declared.entry.Entry.{Entry}
use Rattle.zh_returns.specs.declared.row.Row.{Row}
use Rattle.zh_returns.specs.declared.judgement.Reason.{Reason}
use Rattle.zh_returns.specs.declared.judgement.Verdict.{Verdict}
use Rattle.zh_returns.specs.declared.judgement.Verdict.TheVariants.{Accept, Same, Refused}
use Rattle.zh_returns.specs.declared.judgement.Reason.TheVariants as reasons
use Rattle.zh_returns.specs.Limits.{most_votes}
use Rattle.zh_returns.specs.Tally.{Tally, held}

-- whether two contents are equal: votes, or None for a withdrawn list
abbrev pub same_content : Option ℕ → Option ℕ → Bool
same_content None None = true
same_content None (Some w) = false
same_content (Some v) None = false
same_content (Some v) (Some w) = v == w

-- more votes than a return may have
abbrev pub too_many : Option ℕ → Bool
too_many None = false
too_many (Some votes) = nat_lt most_votes votes

-- the verdict on a content with a replacement number, given what is held under its key
abbrev pub against : Option Entry → ℕ → Option ℕ → Verdict
against None number content = if number == 1 then Accept else Refused reasons.Gap
against (Some entry) number content =
    if nat_lt number entry.number then Refused reasons.Stale
    else if number == entry.number then (if same_content content entry.votes then Same else Refused reasons.Conflict)
    else if number == entry.number + 1 then Accept
    else Refused reasons.Gap

-- the reason for a refusal if a list does not stand in a municipality
abbrev pub reason_of : Misplaced → Reason
reason_of places.Municipality = reasons.Municipality
reason_of places.List = reasons.List

-- a refusal for that reason if there is one, and otherwise this verdict
abbrev pub unless_misplaced : Option Misplaced → Verdict → Verdict
unless_misplaced (Some misplaced) verdict = Refused (reason_of misplaced)
unless_misplaced None verdict = verdict

-- the verdict on a content for a key, with a replacement number
abbrev pub judge_content : Tally → ℕ → ℕ → ℕ → Option ℕ → Verdict
judge_content tally municipality list number content =
    unless_misplaced (misplaced tally.canton municipality list) (
    if too_many content then Refused reasons.Votes
    else if set.contains tally.closed municipality then Refused reasons.Closed
    else against (held tally municipality list) number content
    )

-- the verdict on a return
abbrev pub judge_row : Tally → Row → Verdict
judge_row tally row = judge_content tally row.municipality row.list row.number (Some row.votes)

-- the verdict on closing a municipality
abbrev pub judge_close : Tally → ℕ → Verdict
judge_close tally municipality =
    if not (has_municipality tally.canton municipality) then Refused reasons.Municipality
    else if set.contains tally.closed municipality then Same
    else Accept

-- the verdict on opening a municipality again
abbrev pub judge_reopen : Tally → ℕ → Verdict
judge_reopen tally municipality =
    if not (has_municipality tally.canton municipality) then Refused reasons.Municipality
    else if set.contains tally.closed municipality then Accept
    else Refused (reasons.NotClosed municipality)

abbrev pub is_refusal : Verdict → Bool
is_refusal Accept = false
is_refusal Same = false
is_refusal (Refused reason) = true

abbrev pub is_accept : Verdict → Bool
is_accept Accept = true
is_accept Same = false
is_accept (Refused reason) = false

-- the verdict on a batch, from those on its rows: the first refusal, if there is one; otherwise `Accept` if some row is
-- accepted, and `Same` if none is
abbrev pub of_all : List Verdict → Verdict
of_all verdicts = unwrap_or (find is_refusal verdicts) (if list_any is_accept verdicts then Accept else Same)

-- the verdict on a command; its desk makes no difference; each row of a batch is judged against the count before the batch
abbrev pub judge : Tally → Command → Verdict
judge tally (commands.Return desk row) = judge_row tally row
judge tally (commands.Withdraw desk municipality list number) = judge_content tally municipality list number None
judge tally (commands.Close municipality) = judge_close tally municipality
judge tally (commands.Reopen municipality) = judge_reopen tally municipality
judge tally (commands.Batch desk rows) = of_all (map (judge_row tally) rows)
