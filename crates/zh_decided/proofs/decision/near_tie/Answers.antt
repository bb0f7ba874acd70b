use Rattle.std.proofs.Common.{arith}
use Rattle.zh_decided.specs.Floats.{floating}
use Rattle.zh_matrices.specs.Asked.{asked}
use Rattle.zh_decided.specs.Sweeps.{of_column, of_row}
use Rattle.zh_decided.specs.Taken.{logs}
use Rattle.zh_decided.specs.Floated.{Fit}
use Rattle.zh_decided.proofs.ScaledLemmas.{AreScaled}
use Rattle.zh_decided.proofs.TieLemmas.{another, fit, one-near, other-near, scaled-floats}
use Rattle.zh_decided.proofs.decision.near_tie.Goals as goal

pub unreachable-requires : goal.unreachable-requires
unreachable-requires c =
    another (asked c.args.priced.now.question.now) (logs c.args.priced.now.logarithms.now) c.args.priced.now.seats.now c.turn_cycle.new.seats c.close_gap-gap.result
    c.args.priced.now.logarithms.now.taken c.requires.tables c.requires.totals c.requires.fits c.close_gap-gap.ensures.gap
    (omega (arith, c.close_gap-gap.ensures.within, c.requires.narrow)) (rw c.copy_from_slice.ensures.after at c.turn_cycle.ensures.another)
    c.in_default.ensures.none

pub floating_divisors-requires : goal.floating_divisors-requires
floating_divisors-requires c =
    fit (asked c.args.priced.now.question.now) (logs c.args.priced.now.logarithms.now) c.args.priced.now.seats.now c.close_gap-gap.result.still_at 0 c.close_gap-gap.result.potentials
    c.args.priced.now.logarithms.now.taken c.requires.tables c.requires.totals c.requires.fits c.close_gap-gap.ensures.gap.still

pub returns-clause-tied : goal.returns-clause-tied
returns-clause-tied c =
    let fits : Fit c.args.priced.now.question.now.rows c.args.priced.now.question.now.columns c.close_gap-gap.result.potentials
    = fit (asked c.args.priced.now.question.now) (logs c.args.priced.now.logarithms.now) c.args.priced.now.seats.now c.close_gap-gap.result.still_at 0 c.close_gap-gap.result.potentials
    c.args.priced.now.logarithms.now.taken c.requires.tables c.requires.totals c.requires.fits c.close_gap-gap.ensures.gap.still in
    let scaled : AreScaled (asked c.args.priced.now.question.now) 1 (floating c.floating_divisors.result) (of_row c.close_gap-gap.result.potentials)
    (of_column c.close_gap-gap.result.potentials)
    = scaled-floats (asked c.args.priced.now.question.now) c.close_gap-gap.result.potentials c.floating_divisors.result fits c.floating_divisors.ensures.rows
    c.floating_divisors.ensures.columns in
    record {
      one = one-near (asked c.args.priced.now.question.now) (logs c.args.priced.now.logarithms.now) c.args.priced.now.seats.now c.close_gap-gap.result c.floating_divisors.result
          c.args.priced.now.logarithms.now.taken c.requires.tables c.requires.totals c.requires.fits c.close_gap-gap.ensures.gap scaled;
      other = other-near (asked c.args.priced.now.question.now) (logs c.args.priced.now.logarithms.now) c.args.priced.now.seats.now c.turn_cycle.new.seats c.close_gap-gap.result
          c.floating_divisors.result c.args.priced.now.logarithms.now.taken c.requires.tables c.requires.totals c.turn_cycle.ensures.fits
          c.close_gap-gap.ensures.gap c.close_gap-gap.ensures.one_unit (omega (arith, c.close_gap-gap.ensures.within, c.requires.narrow))
          (rw c.copy_from_slice.ensures.after at c.turn_cycle.ensures.fair) scaled;
      first = c.in-Some.ensures.first;
    }
