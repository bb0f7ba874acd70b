use Rattle.zh_districts.specs.Claims.{Tell}
use Rattle.zh_tables.specs.Problems.{LacksList}
use Rattle.zh_tables.proofs.problems.without_list.Given as goal

abbrev pub invariant-loop-place : goal.invariant-loop-place
invariant-loop-place l = Tell (LacksList l.fn.setup) l.place l.marks.items
