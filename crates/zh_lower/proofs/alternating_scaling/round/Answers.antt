use Rattle.zh_matrices.specs.Asked.{asked}
use Rattle.zh_lower.specs.SearchRooms.{divisors_of}
use Rattle.zh_lower.proofs.StateLemmas.{goes_on}
use Rattle.zh_lower.proofs.alternating_scaling.round.Goals as goal

pub returns-clause-goes_on : goal.returns-clause-goes_on
returns-clause-goes_on c =
    goes_on (asked c.args.question.now) (divisors_of c.args.state.now) (divisors_of c.step_columns.new.state) (divisors_of c.step_rows.new.state)
    c.end_test-2.result c.step_columns.ensures.columns c.step_rows.ensures.rows c.in_default.ensures.none c.end_test-2.ensures.none
