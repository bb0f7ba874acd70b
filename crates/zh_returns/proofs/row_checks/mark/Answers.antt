use Rattle.std.proofs.Common.{◌/◌, ◌%◌, get_or, arith}
use Rattle.zh_returns.proofs.MarkLemmas.{mark_fresh, mark_set}
use Rattle.zh_returns.proofs.row_checks.mark.Goals as goal

pub returns-clause-fresh : goal.returns-clause-fresh
returns-clause-fresh c = mark_fresh (get_or c.args.marks.now (c.args.place / 8) 0) (c.args.place % 8) (omega arith)

pub returns-clause-marked : goal.returns-clause-marked
returns-clause-marked c = λ p. mark_set c.args.marks.now c.args.place p (omega arith)
