use Rattle.std.proofs.Common.{arith}
use Rattle.zh_lower.proofs.MiddleLemmas.{scaled_down-is}
use Rattle.zh_lower.proofs.divisors.scale_down.Goals as goal

pub returns : goal.returns
returns c =
    scaled_down-is c.args.scale c.args.of_columns.now c.loop-column.into (omega (arith, c.loop-column.auto.into, c.requires.room))
    (λ g lt. c.loop-column.invariant g (omega (arith, c.loop-column-test.false, lt)))
