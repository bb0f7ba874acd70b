use Rattle.std.proofs.Common.{arith}
use Rattle.zh_decided.specs.Floats.{floating}
use Rattle.zh_matrices.specs.Asked.{asked}
use Rattle.zh_matrices.specs.SeatMatrix.{IsStrict}
use Rattle.zh_decided.specs.Sweeps.{of_column, of_row}
use Rattle.zh_decided.specs.Taken.{logs}
use Rattle.zh_decided.specs.Floated.{Fit}
use Rattle.zh_decided.proofs.BeyondLemmas.{none-at-all}
use Rattle.zh_decided.proofs.FirstBoxLemmas.{none-given}
use Rattle.zh_decided.proofs.ScaledLemmas.{strict}
use Rattle.zh_decided.proofs.TieLemmas.{fit, scaled-floats}
use Rattle.zh_decided.proofs.decision.only_seats.Goals as goal

pub floating_divisors-requires : goal.floating_divisors-requires
floating_divisors-requires c =
    fit (asked c.args.priced.now.question.now) (logs c.args.priced.now.logarithms.now) c.args.priced.now.seats.now 4102 6 c.args.potentials.now c.args.priced.now.logarithms.now.taken
    c.requires.tables c.requires.totals c.requires.fits c.requires.still

pub returns : goal.returns
returns c =
    let fits : Fit c.args.priced.now.question.now.rows c.args.priced.now.question.now.columns c.args.potentials.now
    = fit (asked c.args.priced.now.question.now) (logs c.args.priced.now.logarithms.now) c.args.priced.now.seats.now 4102 6 c.args.potentials.now c.args.priced.now.logarithms.now.taken
    c.requires.tables c.requires.totals c.requires.fits c.requires.still in
    let only : IsStrict (asked c.args.priced.now.question.now) (floating c.floating_divisors.result) c.args.priced.now.seats.now
    = strict (asked c.args.priced.now.question.now) (logs c.args.priced.now.logarithms.now) 1 (floating c.floating_divisors.result) c.requires.still.bounds
    (of_row c.args.potentials.now) (of_column c.args.potentials.now) c.args.priced.now.seats.now c.args.priced.now.logarithms.now.taken c.requires.tables c.requires.totals
    c.requires.fits (scaled-floats (asked c.args.priced.now.question.now) c.args.potentials.now c.floating_divisors.result fits c.floating_divisors.ensures.rows
    c.floating_divisors.ensures.columns)
    c.requires.still.still.fair (omega (arith, c.requires.still.given_is)) (omega (arith, c.requires.still.taken_is)) in
    record {
      decides = record {
        strict = only;
        none = none-at-all (asked c.args.priced.now.question.now) (floating c.floating_divisors.result) c.args.priced.now.seats.now only
            (c.if-give_within.ensures.none c.args.potentials.now c.requires.still);
      };
      none = none-given (asked c.args.priced.now.question.now) (floating c.floating_divisors.result) c.args.priced.now.seats.now only c.if-give_within.ensures.outside;
    }
