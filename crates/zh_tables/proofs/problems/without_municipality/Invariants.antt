use Rattle.zh_districts.specs.Claims.{Tell}
use Rattle.zh_tables.specs.Problems.{LacksMunicipality}
use Rattle.zh_tables.proofs.problems.without_municipality.Given as goal

abbrev pub invariant-loop-place : goal.invariant-loop-place
invariant-loop-place l = Tell (LacksMunicipality l.fn.setup) l.place l.marks.items
