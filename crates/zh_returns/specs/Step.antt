-- What an accepted command does to the count.
use Rattle.std.specs.Prelude.{◌≡◌, ◌+◌, ◌≤◌, List, [], ◌∷◌, Some, None, fold, filter}
use Rattle.std.specs.Ordering.{nat_cmp}
use Rattle.std.specs.FinMap as map
use Rattle.std.specs.FinSet as set
use Rattle.zh_districts.specs.Canton.{Canton}
use Rattle.zh_districts.specs.Misplaced.{misplaced}
use Rattle.zh_returns.specs.declared.command.Command.{Command}
use Rattle.zh_returns.specs.declared.command.Command.TheVariants as commands
use Rattle.zh_returns.specs.declared.entry.Entry.{Entry}
use Rattle.zh_returns.specs.declared.row.Row.{Row}
use Rattle.zh_returns.specs.declared.judgement.Verdict.{Verdict}
use Rattle.zh_returns.specs.declared.judgement.Verdict.TheVariants.{Accept, Same, Refused}
use Rattle.zh_returns.specs.Keys.{key_cmp}
use Rattle.zh_returns.specs.declared.entry.Origin.{Origin}
use Rattle.zh_returns.specs.Origin.{origin_of}
use Rattle.zh_returns.specs.Tally.{Tally}
use Rattle.zh_returns.specs.Judgement.{judge, judge_row, is_accept}
use Rattle.zh_returns.specs.Limits.{most_votes}
use Rattle.zh_returns.specs.Rows.{row_key}

-- the entry of a return
abbrev pub entry_of : Origin → Row → Entry
entry_of origin row = record { origin = origin; number = row.number; votes = Some row.votes }

-- the entries after those of the rows were put in, in place of what is held
abbrev pub with_rows : Origin → map.FinMap key_cmp Entry → List Row → map.FinMap key_cmp Entry
with_rows origin = fold (λ entries row. map.insert entries (row_key row) (entry_of origin row))

-- the accepted rows of a batch; if the batch is accepted, the count already has the others, and their entries keep their origins
abbrev pub accepted_rows : Tally → List Row → List Row
accepted_rows tally = filter (λ row. is_accept (judge_row tally row))

-- the entries after a command, if those that it puts have this origin
abbrev pub entries_after : Origin → Tally → Command → map.FinMap key_cmp Entry
entries_after origin tally (commands.Return desk row) = map.insert tally.entries (row_key row) (entry_of origin row)
entries_after origin tally (commands.Withdraw desk municipality list number) =
    map.insert tally.entries (municipality, list) (record { origin = origin; number = number; votes = None })
entries_after origin tally (commands.Close municipality) = tally.entries
entries_after origin tally (commands.Reopen municipality) = tally.entries
entries_after origin tally (commands.Batch desk rows) = with_rows origin tally.entries (accepted_rows tally rows)

-- the closed municipalities after a command
abbrev pub closed_after : Tally → Command → set.FinSet nat_cmp
closed_after tally (commands.Return desk row) = tally.closed
closed_after tally (commands.Withdraw desk municipality list number) = tally.closed
closed_after tally (commands.Close municipality) = set.insert tally.closed municipality
closed_after tally (commands.Reopen municipality) = set.remove tally.closed municipality
closed_after tally (commands.Batch desk rows) = tally.closed

-- the count with the change that the command describes, and with one more accepted command
abbrev pub changed : Tally → Command → Tally
changed tally command = record {
  canton = tally.canton;
  entries = entries_after (origin_of command) tally command;
  closed = closed_after tally command;
  accepted = tally.accepted + 1;
}

-- the count after a command with this verdict: the first of the two counts if it is accepted, and otherwise the second
abbrev pub on_verdict : Verdict → Tally → Tally → Tally
on_verdict Accept new old = new
on_verdict Same new old = old
on_verdict (Refused reason) new old = old

-- the count after a command: it changes only if the command is accepted
abbrev pub step : Tally → Command → Tally
step tally command = on_verdict (judge tally command) (changed tally command) tally

-- the new count is the one after the command, which made the change that it describes: it was accepted
pub record Steps (old : Tally) (command : Command) (new : Tally) : Type 0 where
  pub step : new ≡ step old command
  pub changed : new ≡ changed old command

-- the count after these commands, in order
abbrev pub after : Tally → List Command → Tally
after tally [] = tally
after tally (command ∷ commands) = after (step tally command) commands

-- a row that may be put into the count: its list stands in its municipality, and its other numbers are within the limits
pub record MayStand (canton : Canton) (row : Row) : Type 0 where
  pub place : misplaced canton row.municipality row.list ≡ None
  pub number : 1 ≤ row.number
  pub votes : row.votes ≤ most_votes
