use Rattle.std.proofs.Common.{arith}
use Rattle.zh_cases.proofs.question.column_has_votes.Goals as goal
use Rattle.zh_divisors.proofs.CallerLemmas.{term-le-sum_to}
use Rattle.zh_matrices.specs.Asked.{asked}
use Rattle.zh_matrices.specs.Question.{column_votes}

pub returns-then-question-row-gt0 : goal.returns-then-question-row-gt0
returns-then-question-row-gt0 c = λ _. omega (
  arith,
  term-le-sum_to c.args.question.now.rows (column_votes (asked c.args.question.now) c.args.column) c.loop-row.row c.loop-row-test.true,
  c.if-question-row-gt0.true,
)
