use Rattle.std.proofs.Common.{◌+◌, ◌*◌, ◌^◌, arith}
use Rattle.std.proofs.Math.Nat.{mul-le-mul_left}
use Rattle.zh_lower.proofs.ExtremeLemmas.{raised-below}
use Rattle.zh_lower.proofs.extremes.raised_by_cell.Goals as goal

pub returns-clause-below : goal.returns-clause-below
returns-clause-below c =
    raised-below (2 * (c.args.votes * 10 ^ 12)) (2 * c.args.seats + 1) c.args.column c.args.divisor c.max.result
    (omega (arith, mul-le-mul_left (2 * c.args.seats + 1) c.requires.from_1))
    (rw (c.from.ensures, c.from-2.ensures, c.from-3.ensures) at c.max.ensures)
