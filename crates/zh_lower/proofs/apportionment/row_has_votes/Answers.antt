use Rattle.std.proofs.Common.{arith, refl}
use Rattle.zh_divisors.proofs.CallerLemmas.{term-le-sum_to}
use Rattle.zh_matrices.specs.Asked.{asked}
use Rattle.zh_matrices.specs.Question.{row_votes}
use Rattle.zh_lower.proofs.apportionment.row_has_votes.Goals as goal

pub returns-then-question-row-gt0 : goal.returns-then-question-row-gt0
returns-then-question-row-gt0 c = (
  λ _. omega (
    arith,
    term-le-sum_to c.args.question.now.columns (row_votes (asked c.args.question.now) c.args.row) c.loop-column.column c.loop-column-test.true,
    c.if-question-row-gt0.true,
  ),
  λ _. refl,
)
