use Rattle.std.proofs.Common.{◌≡◌}
use Rattle.zh_divisors.specs.Sums.{sum_to}
use Rattle.zh_upper.proofs.VoterSumLemmas.{number_at}
use Rattle.zh_upper.proofs.voter_sums.voter_sum.Given as goal

abbrev pub invariant-loop-place : goal.invariant-loop-place
invariant-loop-place l = l.voters ≡ sum_to l.place (number_at l.totals l.fn.seats l.group)
