use Rattle.std.proofs.Common.{◌≡◌, ◌+◌, length, sym, subst, arith}
use Rattle.zh_districts.specs.Claims.{Tell}
use Rattle.zh_tables.specs.Problems.{LacksMunicipality}
use Rattle.zh_tables.proofs.ProblemLemmas.{told_next, told_none}
use Rattle.zh_tables.proofs.problems.without_municipality.Goals as goal

pub loop-place-init : goal.loop-place-init
loop-place-init c = subst (Tell (LacksMunicipality c.args.setup.now) 0) (sym c.new-marks.ensures.items) (told_none (LacksMunicipality c.args.setup.now))

pub loop-place-preserved : goal.loop-place-preserved
loop-place-preserved c =
    subst (Tell (LacksMunicipality c.args.setup.now) (c.loop-place.place + 1)) (sym c.in_ok-push.ensures.items)
    (told_next (LacksMunicipality c.args.setup.now) c.loop-place.place c.loop-place.marks.items c.lacks_municipality.result c.loop-place.invariant c.lacks_municipality.ensures)

pub returns : goal.returns
returns c =
    let last : c.loop-place.place ≡ length c.args.setup.now.constituencies = omega (arith, c.constituencies-place-end.ensures.count) in
    rw last at c.loop-place.invariant
