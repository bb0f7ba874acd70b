use Rattle.std.proofs.Common.{get_or, arith}
use Rattle.zh_matrices.specs.Asked.{asked}
use Rattle.zh_lower.specs.Extremes.{IsLeastRow}
use Rattle.zh_lower.proofs.ExtremeLemmas.{Enclose-row, NoneGive-row}
use Rattle.zh_lower.proofs.RoundLemmas.{others-set}
use Rattle.zh_lower.proofs.FilledLemmas.{AreWithin-set, each_set}
use Rattle.zh_lower.proofs.extremes.raise_rows.Goals as goal

pub returns-then-divisor-from-clause-out : goal.returns-then-divisor-from-clause-out
returns-then-divisor-from-clause-out c = λ top enclose.
    NoneGive-row (asked c.args.proposal.now.question.now) top c.loop-row.row c.raised-divisor.result c.args.proposal.now.seats.now c.loop-row.of_rows c.args.of_columns.now
    c.loop-row-test.true (omega arith) c.raised-divisor.ensures.least (c.loop-row.invariant.enclose top enclose)

pub loop-row-preserved : goal.loop-row-preserved
loop-row-preserved c =
    let one : IsLeastRow (asked c.args.proposal.now.question.now) c.args.proposal.now.seats.now c.args.of_columns.now c.loop-row.row (get_or c.loop-row.of_rows c.loop-row.row 0)
    c.raised-divisor.result = record {
      at_least = c.raised-divisor.ensures.at_least;
      below = c.raised-divisor.ensures.below;
      least = c.raised-divisor.ensures.least;
    } in
    record {
      rows = AreWithin-set _ _ _ _ _ (omega (arith, c.raised-divisor.ensures.at_least, c.loop-row.invariant.rows.from_1 c.loop-row.row 0 (omega (arith, c.loop-row.invariant.rows.one_each))))
          (omega arith) c.loop-row.invariant.rows;
      least = each_set (λ d x. IsLeastRow (asked c.args.proposal.now.question.now) c.args.proposal.now.seats.now c.args.of_columns.now d (get_or c.args.of_rows.now d 0) x)
          c.loop-row.of_rows c.loop-row.row c.raised-divisor.result (omega (arith, c.loop-row.invariant.rows.one_each))
          (rw (c.loop-row.invariant.others c.loop-row.row (omega arith)) at one) c.loop-row.invariant.least;
      others = others-set c.loop-row.row c.raised-divisor.result c.args.of_rows.now c.loop-row.of_rows c.loop-row.invariant.others;
      enclose = λ top enclose.
          Enclose-row (asked c.args.proposal.now.question.now) top c.loop-row.row c.raised-divisor.result c.args.proposal.now.seats.now c.loop-row.of_rows c.args.of_columns.now
          c.loop-row-test.true c.loop-row.invariant.rows.one_each c.raised-divisor.ensures.least (c.loop-row.invariant.enclose top enclose);
    }
