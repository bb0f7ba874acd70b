use Rattle.zh_divisors.specs.LineSeats.{IsNextCell}
use Rattle.zh_divisors.proofs.lines.next_cell.Given as goal

abbrev pub invariant-loop-j : goal.invariant-loop-j
invariant-loop-j l = IsNextCell l.votes l.others l.seats l.j l.next
