use Rattle.zh_upper.proofs.VoterSumLemmas.{AreVoterSumsTo}
use Rattle.zh_upper.proofs.voter_sums.voters.Given as goal

abbrev pub invariant-loop-place : goal.invariant-loop-place
invariant-loop-place l = AreVoterSumsTo l.totals l.seats l.sums.items l.place
