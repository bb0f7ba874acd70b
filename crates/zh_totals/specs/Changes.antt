-- What commands change in the totals.
use Rattle.std.specs.Prelude.{ℕ, ◌+◌, ◌-◌, ◌≤◌, ◌^◌, List, [], ◌∷◌, length, map, fold, set}
use Rattle.std.specs.Option.{option_map_or}
use Rattle.zh_districts.specs.Canton.{constituency_of}
use Rattle.zh_returns.specs.declared.command.Command.{Command}
use Rattle.zh_returns.specs.declared.command.Command.TheVariants as commands
use Rattle.zh_returns.specs.declared.row.Row.{Row}
use Rattle.zh_returns.specs.Tally.{Tally, held}
use Rattle.zh_totals.specs.declared.totals.Change.{Change}
use Rattle.zh_totals.specs.Totals.{VoteTotals, place_in, votes_in, all_votes}
use Rattle.zh_totals.specs.Counting.{votes_of}

-- the sum for the list in its constituency, less the votes before the change, plus those after it
abbrev pub sum_after : VoteTotals → Change → ℕ
sum_after totals change = votes_in totals change.constituency change.list - change.before + change.after

-- the totals after a change: one sum is replaced, the others do not change
abbrev pub noted : VoteTotals → Change → VoteTotals
noted totals change = record totals {
  votes = set totals.votes (place_in totals.canton change.constituency change.list) (sum_after totals change);
}

-- the totals after these changes, in order
abbrev pub all_noted : VoteTotals → List Change → VoteTotals
all_noted = fold noted

-- a change that totals can take: of a list of the set-up, from at most the votes of its sum, to at most the votes of a return,
-- and with at most 10^14 votes in all afterwards
pub record IsChange (totals : VoteTotals) (change : Change) : Type 0 where
  pub constituency : (1 ≤ change.constituency) × (change.constituency ≤ length totals.canton.constituencies)
  pub list : (1 ≤ change.list) × (change.list ≤ length totals.canton.groups)
  pub before : change.before ≤ votes_in totals change.constituency change.list
  pub after : change.after ≤ 1000000000
  pub most : all_votes (noted totals change) ≤ 10 ^ 14

-- the votes held under a key, 0 if nothing is held or the list is withdrawn
abbrev pub votes_held : Tally → ℕ → ℕ → ℕ
votes_held tally municipality list = option_map_or votes_of (held tally municipality list) 0

-- the change from the votes held under a key to these votes
abbrev pub change_to : Tally → ℕ → ℕ → ℕ → Change
change_to tally municipality list votes = record {
  constituency = constituency_of tally.canton municipality;
  list = list;
  before = votes_held tally municipality list;
  after = votes;
}

-- the change that a row makes
abbrev pub row_change : Tally → Row → Change
row_change tally row = change_to tally row.municipality row.list row.votes

-- the changes of votes that an accepted command makes, from what the count held before it
abbrev pub changes_of : Tally → Command → List Change
changes_of tally (commands.Return desk row) = row_change tally row ∷ []
changes_of tally (commands.Withdraw desk municipality list number) = change_to tally municipality list 0 ∷ []
changes_of tally (commands.Close municipality) = []
changes_of tally (commands.Reopen municipality) = []
changes_of tally (commands.Batch desk rows) = map (row_change tally) rows
