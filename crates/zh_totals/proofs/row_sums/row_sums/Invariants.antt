use Rattle.std.proofs.Common.{◌≡◌}
use Rattle.zh_totals.specs.GivenVotes.{AreRowSums, votes_of_rows}
use Rattle.zh_totals.proofs.row_sums.row_sums.Given as goal

abbrev pub invariant-loop-row : goal.invariant-loop-row
invariant-loop-row l = (l.all ≡ votes_of_rows l.votes l.columns l.row) × AreRowSums l.votes l.columns l.row l.sums.items
