use Rattle.std.proofs.Common.{◌≡◌, ◌+◌, ◌-◌, ◌*◌, ◌%◌, ◌^◌, refl, arith}
use Rattle.std.proofs.lemmas.Nat.{pow-add}
use lib.Count.{count_leading_zeros}
use Rattle.zh_decided.proofs.ApproximationLemmas.{at_most_one, begins, ends, squared_by_code}
use Rattle.zh_decided.proofs.SquaringLemmas.{shifted-of, squared-again}
use Rattle.zh_decided.proofs.logarithms.logarithm.Goals as goal

pub loop-place-init : goal.loop-place-init
loop-place-init c =
    let start = begins c.args.number (count_leading_zeros 64 c.args.number) c.requires (omega arith) refl in
    rw c.from-logarithm.ensures (record {
      least = start.1;
      fits = start.2;
      small = omega (arith, start.0);
      nearly = start.3;
      squared = shifted-of c.args.number (c.args.number * 2 ^ count_leading_zeros 64 c.args.number % 2 ^ 64) (63 - count_leading_zeros 64 c.args.number)
          start.1 start.2 start.3;
    })

pub loop-place-preserved : goal.loop-place-preserved
loop-place-preserved c =
    let double : 2 ^ (c.loop-place._place + 1) ≡ 2 ^ c.loop-place._place * 2 ^ 1 = pow-add 2 c.loop-place._place 1 in
    let I = c.loop-place.invariant in
    record {
      least = c.cut_square-square.ensures.least;
      fits = c.cut_square-square.ensures.fits;
      small = omega (arith, at_most_one _ _ c.from.ensures);
      nearly = squared_by_code c.args.number c.loop-place._place _ c.loop-place.logarithm _ _ _ c.from.ensures (omega arith)
          c.cut_square-square.ensures I.nearly;
      squared = squared-again c.args.number c.loop-place._place _ _ c.loop-place.logarithm _ _ c.from.ensures I.squared c.cut_square-square.ensures;
    }

pub returns-clause-log : goal.returns-clause-log
returns-clause-log c =
    let I = c.loop-place.invariant in
    let thirty : c.loop-place._place ≡ 30 = omega arith in
    ends c.args.number c.loop-place.mantissa c.loop-place.logarithm I.least I.fits (rw thirty at I.nearly)

pub returns-clause-squared : goal.returns-clause-squared
returns-clause-squared c =
    let thirty : c.loop-place._place ≡ 30 = omega arith in
    record { mantissa = c.loop-place.mantissa; squared = rw thirty at c.loop-place.invariant.squared }
