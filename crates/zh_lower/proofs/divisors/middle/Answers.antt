use Rattle.std.proofs.Common.{◌≡◌, ◌+◌, [], sym, ap, arith}
use Rattle.zh_matrices.specs.Asked.{asked}
use Rattle.zh_matrices.specs.Divisors.{Divisors, millionths}
use Rattle.zh_lower.specs.Second.{middled}
use Rattle.zh_lower.proofs.MiddleLemmas.{middled-more, middled-zero}
use Rattle.zh_lower.proofs.divisors.middle.Goals as goal

pub loop-time-init : goal.loop-time-init
loop-time-init c = record {
  columns = sym (ap (λ x. x.of_columns) (middled-zero (asked c.args.question.now) (millionths [] c.args.of_columns.now)));
  all = λ some. absurd (omega (arith, some));
  within = c.requires.columns;
  within_rows = λ some. absurd (omega (arith, some));
}

pub loop-time-preserved : goal.loop-time-preserved
loop-time-preserved c =
    let begun : Divisors = millionths [] c.args.of_columns.now in
    let all : millionths c.middle_rows.new.of_rows c.middle_columns.new.of_columns ≡ middled (asked c.args.question.now) (c.loop-time._time + 1) begun
    = middled-more (asked c.args.question.now) c.loop-time._time begun c.loop-time.of_rows c.loop-time.of_columns _ _ c.loop-time.invariant.columns
    c.middle_rows.ensures.rows c.middle_columns.ensures.columns in
    record {
      columns = ap (λ x. x.of_columns) all;
      all = λ _. all;
      within = c.middle_columns.ensures.limits.columns;
      within_rows = λ _. c.middle_columns.ensures.limits.rows;
    }

pub returns-clause-middle : goal.returns-clause-middle
returns-clause-middle c =
    let times : c.loop-time._time ≡ 16 = omega arith in
    rw times at (c.loop-time.invariant.all (omega arith))

pub returns-clause-limits : goal.returns-clause-limits
returns-clause-limits c = record {
  rows = c.loop-time.invariant.within_rows (omega arith);
  columns = c.loop-time.invariant.within;
}
