use Rattle.std.proofs.Common.{Ok, arith, rules}
use Rattle.std.proofs.lemmas.Grind.{common_steps}
use Rattle.zh_matrices.specs.Question.{question}
use Rattle.zh_lower.specs.Seating.{LowerOutcome}
use Rattle.zh_lower.proofs.SeatingLemmas.{no_answer, only_answer}
use Rattle.zh_lower.proofs.apportionment.find.Goals as goal

pub returns-in_err-find_or_reason-clause-no_answer : goal.returns-in_err-find_or_reason-clause-no_answer
returns-in_err-find_or_reason-clause-no_answer c =
    let outcome : LowerOutcome (question c.args.matrix.now c.args.row_totals.now c.args.column_totals.now) c.from_residual.result
    = first_of (search rules, grind (arith, common_steps)) in
    λ d g tied. no_answer (question c.args.matrix.now c.args.row_totals.now c.args.column_totals.now) c.from_residual.result d g outcome tied

pub returns-clause-one_answer : goal.returns-clause-one_answer
returns-clause-one_answer c =
    let outcome : LowerOutcome (question c.args.matrix.now c.args.row_totals.now c.args.column_totals.now) (Ok c.in_ok-find_or_reason.field-0)
    = first_of (search rules, grind (arith, common_steps)) in
    only_answer (question c.args.matrix.now c.args.row_totals.now c.args.column_totals.now) (Ok c.in_ok-find_or_reason.field-0) outcome
