use Rattle.std.proofs.Common.{◌^◌}
use Rattle.zh_matrices.specs.Asked.{asked}
use Rattle.zh_matrices.specs.Divisors.{AreWithin, millionths}
use Rattle.zh_lower.specs.Extremes.{ComeTo, Enclose}
use Rattle.zh_lower.proofs.extremes.settle.Given as goal

abbrev pub invariant-loop-round : goal.invariant-loop-round
invariant-loop-round l = record {
  rows : AreWithin l.proposal.question.now.rows (10 ^ 18) l.of_rows;
  columns : AreWithin l.proposal.question.now.columns l.top l.of_columns;
  enclose : Enclose (asked l.proposal.question.now) l.top l.proposal.seats.now l.of_rows l.of_columns;
  rounds : ComeTo (asked l.proposal.question.now) l.top l.proposal.seats.now l._round (millionths l.of_rows l.of_columns);
}
