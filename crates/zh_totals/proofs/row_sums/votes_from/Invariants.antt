use Rattle.std.proofs.Common.{◌≡◌, ◌≤◌, ◌^◌}
use Rattle.zh_totals.specs.GivenVotes.{votes_from}
use Rattle.zh_totals.proofs.row_sums.votes_from.Given as goal

abbrev pub invariant-loop-place : goal.invariant-loop-place
invariant-loop-place l = (l.sum ≡ votes_from l.votes l.first l.place) × (l.sum ≤ 10 ^ 14)
