use Rattle.std.proofs.Common.{◌-◌, ◌*◌, ◌^◌, ◌<◌, arith}
use Rattle.std.proofs.Math.Nat.{mul-le-mul_left}
use Rattle.zh_lower.proofs.ExtremeLemmas.{lowered-above, lowered-greatest}
use Rattle.zh_lower.proofs.extremes.lowered_by_cell.Goals as goal

pub returns-clause-above : goal.returns-clause-above
returns-clause-above c = λ some seated.
    lowered-above (2 * (c.args.votes * 10 ^ 12)) (2 * c.args.seats - 1) c.args.row c.args.divisor c.min.result
    (omega (arith, mul-le-mul_left (2 * c.args.seats - 1) c.requires.from_1))
    (rw (c.saturating_sub.ensures, c.from.ensures, c.from-2.ensures, c.from-3.ensures, c.from-4.ensures) at c.min.ensures) some

pub returns-clause-greatest : goal.returns-clause-greatest
returns-clause-greatest c = λ other within above.
    let seated : 0 < c.args.seats = omega arith in
    lowered-greatest (2 * (c.args.votes * 10 ^ 12)) (2 * c.args.seats - 1) c.args.row c.args.divisor c.min.result other
    (omega (arith, mul-le-mul_left (2 * c.args.seats - 1) c.requires.from_1))
    (rw (c.saturating_sub.ensures, c.from.ensures, c.from-2.ensures, c.from-3.ensures, c.from-4.ensures) at c.min.ensures)
    within (above seated)
