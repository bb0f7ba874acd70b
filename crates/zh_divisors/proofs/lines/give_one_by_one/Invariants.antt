use Rattle.std.proofs.Common.{◌≤◌}
use Rattle.zh_divisors.specs.LineSeats.{AreGiven, IsLastCell}
use Rattle.zh_divisors.proofs.lines.give_one_by_one.Given as goal

abbrev pub invariant-loop-given : goal.invariant-loop-given
invariant-loop-given l = record {
  given : AreGiven l.votes l.others l.seats l._given;
  last : 1 ≤ l._given → IsLastCell l.votes l.others l.seats l.last;
}
