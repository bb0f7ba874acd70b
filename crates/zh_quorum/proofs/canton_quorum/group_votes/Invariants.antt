use Rattle.std.proofs.Common.{◌≡◌, ◌+◌}
use Rattle.zh_divisors.specs.Sums.{sum_to}
use Rattle.zh_totals.specs.Totals.{votes_in}
use Rattle.zh_quorum.proofs.canton_quorum.group_votes.Given as goal

abbrev pub invariant-loop-place : goal.invariant-loop-place
invariant-loop-place l = l.votes ≡ sum_to l.place (λ i. votes_in l.totals (i + 1) l.group)
