use Rattle.std.proofs.Common.{inl, inr, refl, subst}
use Rattle.zh_program.specs.OnDisk.{DoesOn}
use Rattle.zh_program.specs.World.{known}
use Rattle.zh_program.proofs.on_disk.on_disk.Goals as goal

pub returns-in-Ok : goal.returns-in-Ok
returns-in-Ok g c =
    let of = known g.I.Read g.O.Write g.E.Write g.F.Files g.F.Disk.Disk in
    let asked = record c.args.world.now { files = c.begin.new.files } in
    let did = DoesOn of c.args.work c.in-Ok.setup in
    inr (record {
      canton = c.in-Ok.setup;
      files = c.begin.new.files;
      first = c.in-Ok.disk;
      last = c.work_on-result.new.filmed;
      setup = c.in-Ok.ensures.setup;
      asked = c.in-Ok.ensures.asked;
      begins = c.in-Ok.ensures.begins;
      does = subst (λ (d : of.Disk). did (asked, d) (c.work_on-result.new.world, c.work_on-result.new.filmed) c.work_on-result.result) c.new-filmed.ensures.disk c.work_on-result.ensures;
      used = refl;
    })

pub returns-in-Err : goal.returns-in-Err
returns-in-Err g c = inl (record {
  early = c.in-Err.ensures.early;
  none = refl;
  rest = refl;
  counted = c.begin.ensures.counted;
  touches = c.begin.ensures.touches;
  leaves = c.begin.ensures.leaves;
})

pub work_on-result-requires : goal.work_on-result-requires
work_on-result-requires g c = c.new-filmed.ensures.film
