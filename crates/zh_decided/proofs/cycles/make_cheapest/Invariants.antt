use Rattle.zh_matrices.specs.Asked.{asked}
use Rattle.zh_matrices.specs.Fitting.{FitsVotes}
use Rattle.zh_decided.specs.Prices.{cost}
use Rattle.zh_decided.specs.Taken.{logs}
use Rattle.zh_decided.proofs.cycles.make_cheapest.Given as goal

abbrev pub invariant-loop-potentials : goal.invariant-loop-potentials
invariant-loop-potentials l = FitsVotes (asked l.question) l.seats

abbrev pub decreases-loop-potentials : goal.decreases-loop-potentials
decreases-loop-potentials l = cost (asked l.question) (logs l.logarithms) l.seats
