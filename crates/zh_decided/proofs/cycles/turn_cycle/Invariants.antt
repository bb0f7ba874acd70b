use Rattle.zh_matrices.specs.Asked.{asked}
use Rattle.zh_decided.proofs.CycleTurnLemmas.{AreTurned}
use Rattle.zh_decided.proofs.cycles.turn_cycle.Given as goal

abbrev pub invariant-loop-place : goal.invariant-loop-place
invariant-loop-place l = AreTurned (asked l.question) l.cycle l.place l.initial.seats l.seats
