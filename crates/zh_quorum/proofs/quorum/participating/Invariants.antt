use Rattle.zh_quorum.proofs.ParticipatingLemmas.{AreParticipatingTo}
use Rattle.zh_quorum.proofs.quorum.participating.Given as goal

abbrev pub invariant-loop-place : goal.invariant-loop-place
invariant-loop-place l = AreParticipatingTo l.totals l.taking.items l.place
