use Rattle.std.proofs.Common.{◌≡◌, ℕ, List, subst, rules}
use Rattle.zh_returns.specs.declared.command.Command.TheVariants as commands
use Rattle.zh_returns.specs.declared.row.Row.{Row}
use Rattle.zh_ledger.specs.Ledger.{Ledger}
use Rattle.zh_ledger.specs.Submissions.{OnDisk}
use Rattle.zh_office.specs.Requests.{ReportsOutcome}
use Rattle.zh_office.specs.declared.answer.Answer.{Answer}
use Rattle.zh_office.proofs.answer.submit_rows.Goals as goal

-- a report on these rows is a report on the equal rows of the batch
reported_of : (old new : OnDisk Ledger) (desk : ℕ) (rows batch : List Row) (answer : Answer) → rows ≡ batch
    → ReportsOutcome old (commands.Batch desk rows) answer new → ReportsOutcome old (commands.Batch desk batch) answer new
reported_of old new desk rows batch answer same by = subst (λ (rows : List Row). ReportsOutcome old (commands.Batch desk rows) answer new) same by

pub returns-clause-reported : goal.returns-clause-reported
returns-clause-reported g c = search (rules, reported_of)

pub returns-clause-untouched : goal.returns-clause-untouched
returns-clause-untouched g c = search rules
