use Rattle.std.proofs.Common.{◌^◌}
use Rattle.zh_matrices.specs.Asked.{asked}
use Rattle.zh_matrices.specs.Divisors.{millionths}
use Rattle.zh_lower.specs.States.{renewed_row}
use Rattle.zh_lower.proofs.FilledLemmas.{AreRenewed}
use Rattle.zh_lower.proofs.half_step.renew_rows.Given as goal

abbrev pub invariant-loop-row : goal.invariant-loop-row
invariant-loop-row l =
    AreRenewed l.question.rows (10 ^ 18) (renewed_row (asked l.question) (millionths l.initial.of_rows l.of_columns))
    l.initial.of_rows l.of_rows l.row
