use Rattle.zh_divisors.specs.Worth.{IsMostNext}
use Rattle.zh_divisors.proofs.apportionment.most_next.Given as goal

abbrev pub invariant-loop-j : goal.invariant-loop-j
invariant-loop-j l = IsMostNext l.weights l.seats l.j l.most
