use Rattle.std.proofs.Common.{◌∙◌, ℕ, List, ap, drop, map, string_bytes, subst, sym}
use Rattle.zh_program.specs.Does.{ProgramDoes}
use Rattle.zh_program.specs.World.{known}
use Rattle.zhcount.proofs.status.run.Goals as goal

pub returns-in-Ok : goal.returns-in-Ok
returns-in-Ok g c =
    let of = known g.I.Read g.O.Write g.E.Write g.F.Files g.F.Disk.Disk in
    let did = c.program-result.ensures in
    let used = c.program-result.result.used in
    let old = c.args.world.now in
    let new = c.program-result.new.world in
    let ended : ProgramDoes of (map string_bytes c.after_name.result.now) old new c.program-result.result.result used = record {
      bound = did.status;
      done = did.done;
      fault = did.fault;
      headline = did.headline;
      rehearsed = did.rehearsed;
      touches = did.touches;
      refused = did.refused;
    } in
    let arguments = c.after_name.ensures ∙ ap (drop 1) c.deref.ensures.value in
    rw c.in-Ok.is (
    subst (λ (n : ℕ). ProgramDoes of (map string_bytes (drop 1 c.in-Ok.all.items)) old new n used) (sym c.from.ensures)
    (subst (λ (all : List _). ProgramDoes of (map string_bytes all) old new c.program-result.result.result used) arguments ended)
    )
