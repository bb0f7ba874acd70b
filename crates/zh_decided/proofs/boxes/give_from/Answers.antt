use Rattle.std.proofs.Common.{◌+◌, ◌*◌, ◌^◌, length, slice_index, refl, arith}
use Rattle.std.proofs.lemmas.Bool.{false≢true}
use Rattle.zh_decided.specs.Logarithms.{log_unit}
use Rattle.zh_matrices.specs.Asked.{asked}
use Rattle.zh_decided.specs.Taken.{logs}
use Rattle.zh_decided.proofs.BeyondLemmas.{no-cycle-in-box, out-of-range}
use Rattle.zh_decided.proofs.BoxLemmas.{column-reached, gives-strictly, row-reached, same-logs, within-limits}
use Rattle.zh_decided.proofs.FirstBoxLemmas.{in-box, not-cycle, not-out}
use Rattle.zh_decided.proofs.boxes.give_from.Goals as goal

pub take_numbers-requires-clause-most : goal.take_numbers-requires-clause-most
take_numbers-requires-clause-most c = λ i lt.
    rw (c.below-row_logarithms.ensures i (omega (arith, c.requires.rows, c.args.priced.now.question.now.sized.few_rows)), c.from.ensures)
    (row-reached c.args.bits c.box_from-bounds.result
    (slice_index c.in-Still.potentials.of_rows i) c.box_from-bounds.ensures (c.in-Still.ensures.row_floors i (omega (arith, c.requires.rows))))

pub take_numbers-requires-in-Still-clause-most : goal.take_numbers-requires-in-Still-clause-most
take_numbers-requires-in-Still-clause-most c = λ i lt. column-reached c.args.bits c.box_from-bounds.result
    (slice_index c.in-Still.potentials.of_columns i) c.box_from-bounds.ensures
    (omega (arith, c.in-Still.ensures.capped.columns i (omega (arith, c.requires.columns))))

pub returns-in-Still-clause-limits : goal.returns-in-Still-clause-limits
returns-in-Still-clause-limits c = λ _.
    within-limits (asked c.args.priced.now.question.now) c.args.bits (length c.args.of_rows.now) (length c.args.of_columns.now) c.take_numbers.new.into
    c.take_numbers-in-Still.new.into _ _ c.requires.rows c.requires.columns (same-logs c.args.bits (10 ^ 18) (length c.args.of_rows.now) c.take_numbers.new.into _ _
    (omega (arith, c.requires.rows, c.args.priced.now.question.now.sized.few_rows)) c.below-row_logarithms.ensures c.take_numbers.ensures) c.take_numbers-in-Still.ensures

pub returns-in-Still-clause-strict : goal.returns-in-Still-clause-strict
returns-in-Still-clause-strict c = λ _.
    gives-strictly (asked c.args.priced.now.question.now) (logs c.args.priced.now.logarithms.now) c.args.priced.now.seats.now c.args.bits (length c.args.of_rows.now)
    (length c.args.of_columns.now) (c.box_from-bounds.result.row_cap + c.from.result * log_unit) c.box_from-bounds.result c.in-Still.potentials
    c.take_numbers.new.into c.take_numbers-in-Still.new.into c.requires.few c.requires.rows c.requires.columns (rw c.from.ensures refl)
    c.args.priced.now.logarithms.now.taken c.requires.tables c.requires.totals c.requires.fits c.box_from-bounds.ensures c.in-Still.ensures (same-logs c.args.bits (10 ^ 18) (length c.args.of_rows.now) c.take_numbers.new.into _ _
    (omega (arith, c.requires.rows, c.args.priced.now.question.now.sized.few_rows)) c.below-row_logarithms.ensures c.take_numbers.ensures) c.take_numbers-in-Still.ensures

pub returns-in-Still-clause-in_box : goal.returns-in-Still-clause-in_box
returns-in-Still-clause-in_box c =
    in-box (asked c.args.priced.now.question.now) (logs c.args.priced.now.logarithms.now) c.args.priced.now.seats.now c.args.bits (length c.args.of_rows.now)
    (length c.args.of_columns.now) (c.box_from-bounds.result.row_cap + c.from.result * log_unit) c.box_from-bounds.result c.in-Still.potentials
    c.take_numbers.new.into c.take_numbers-in-Still.new.into c.requires.rows c.requires.columns (rw c.from.ensures refl)
    c.box_from-bounds.ensures c.in-Still.ensures (same-logs c.args.bits (10 ^ 18) (length c.args.of_rows.now) c.take_numbers.new.into _ _
    (omega (arith, c.requires.rows, c.args.priced.now.question.now.sized.few_rows)) c.below-row_logarithms.ensures c.take_numbers.ensures) c.take_numbers-in-Still.ensures

pub returns-in-Cycle : goal.returns-in-Cycle
returns-in-Cycle c = record {
  limits = λ gives. absurd (false≢true gives);
  strict = λ gives. absurd (false≢true gives);
  in_box = tt;
  moves = not-cycle (asked c.args.priced.now.question.now) (logs c.args.priced.now.logarithms.now) c.args.priced.now.seats.now c.args.bits c.box_from-bounds.result c.in-Cycle._cycle
      c.box_from-bounds.ensures c.in-Cycle.ensures;
  none = λ e p S of_rows of_columns range strict. no-cycle-in-box (asked c.args.priced.now.question.now) (logs c.args.priced.now.logarithms.now) c.args.priced.now.seats.now
      c.box_from-bounds.result p c.in-Cycle._cycle (rw e at c.box_from-bounds.ensures) S c.in-Cycle.ensures;
}

pub returns-in-Out : goal.returns-in-Out
returns-in-Out c =
    let O = rw c.in-Out.is at c.sweep.ensures in
    record {
      limits = λ gives. absurd (false≢true gives);
      strict = λ gives. absurd (false≢true gives);
      in_box = tt;
      moves = not-out (asked c.args.priced.now.question.now) (logs c.args.priced.now.logarithms.now) c.args.priced.now.seats.now c.args.bits c.box_from-bounds.result
          c.box_from-bounds.ensures O.out;
      none = λ e p S. out-of-range (asked c.args.priced.now.question.now) (logs c.args.priced.now.logarithms.now) c.args.priced.now.seats.now c.box_from-bounds.result
          c.args.priced.now.question.now.sized.few_columns c.args.priced.now.logarithms.now.taken c.requires.tables c.requires.totals c.requires.fits
          (rw e at c.box_from-bounds.ensures) O.out;
    }
