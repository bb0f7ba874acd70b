use Rattle.std.proofs.Common.{◌≡◌, ◌+◌, ◌*◌, ◌^◌, ◌≤◌}
use Rattle.zh_divisors.specs.Sums.{sum_to}
use Rattle.zh_totals.specs.Totals.{votes_in}
use Rattle.zh_count_tables.proofs.quorum_so_far.group_votes.Given as goal

abbrev pub invariant-loop-place : goal.invariant-loop-place
invariant-loop-place l = record {
  so_far : l.votes ≡ sum_to l.place (λ i. votes_in l.totals (i + 1) l.group);
  few : l.votes ≤ 10 ^ 14 * l.place;
}
