use Rattle.std.proofs.Common.{◌≡◌, ◌+◌, ◌*◌, ◌^◌, ◌≤◌}
use Rattle.zh_divisors.specs.Sums.{sum_to}
use Rattle.zh_totals.specs.Totals.{constituency_votes}
use Rattle.zh_count_tables.proofs.quorum_so_far.all_votes.Given as goal

abbrev pub invariant-loop-place : goal.invariant-loop-place
invariant-loop-place l = record {
  so_far : l.votes ≡ sum_to l.place (λ i. constituency_votes l.totals (i + 1));
  few : l.votes ≤ 10 ^ 14 * l.place;
}
