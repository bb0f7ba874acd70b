use Rattle.zh_divisors.specs.Fit.{IsFit}
use Rattle.zh_divisors.proofs.apportionment.give_seats.Given as goal

abbrev pub invariant-loop-given : goal.invariant-loop-given
invariant-loop-given l = IsFit l.weights l._given l.seats.items
