use Rattle.std.proofs.Common.{arith}
use Rattle.zh_decided.specs.Taken.{priced_in}
use Rattle.zh_decided.proofs.DescentLemmas.{no_trail, out-of}
use Rattle.zh_decided.proofs.sweeps.sweep.Goals as goal

pub descend-requires-clause-caps : goal.descend-requires-clause-caps
descend-requires-clause-caps c = λ g gn. omega (
  arith,
  c.args.priced.now.question.now.sized.few_columns,
  c.marks_at-columns.ensures g (omega (
    arith,
    c.args.priced.now.question.now.sized.few_columns,
  )),
)

pub descend-requires-clause-above : goal.descend-requires-clause-above
descend-requires-clause-above c = λ x y fair capped g gn.
    omega (arith, capped.columns g gn, c.marks_at-columns.ensures g (omega (arith, c.args.priced.now.question.now.sized.few_columns)))

pub unreachable-requires : goal.unreachable-requires
unreachable-requires c =
    no_trail (priced_in c.args.priced.now) c.args.bounds c.marks_at-columns.result
    c.in-Falls.field-0 c.in-Falls.ensures.0 c.in-Falls.ensures.1

pub returns-in-Out : goal.returns-in-Out
returns-in-Out c =
    out-of (priced_in c.args.priced.now) c.args.bounds c.marks_at-columns.result
    c.args.priced.now.question.now.sized.few_columns (λ g gn. c.marks_at-columns.ensures g (omega (arith, c.args.priced.now.question.now.sized.few_columns)))
    c.in-Out.ensures
