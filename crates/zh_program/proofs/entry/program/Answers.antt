use Rattle.std.proofs.Common.{◌≡◌, inl, inr, refl, ap}
use Rattle.zh_program.specs.World.{known}
use Rattle.zh_program.proofs.EndingLemmas.{fails, met_fault, was_done}
use Rattle.zh_program.proofs.PromiseLemmas.{promise_of}
use Rattle.zh_program.proofs.RehearsalLemmas.{rehearsed_of}
use Rattle.zh_program.proofs.TouchLemmas.{left_after, touched_after}
use Rattle.zh_program.proofs.entry.program.Goals as goal

pub returns-in-Ok-clause-done : goal.returns-in-Ok-clause-done
returns-in-Ok-clause-done g c = λ zero.
    let of = known g.I.Read g.O.Write g.E.Write g.F.Files g.F.Disk.Disk in
    let task = c.in-Ok.task in
    let after = c.carry_out-result.new.world in
    let ended = c.carry_out-result.result in
    let done = was_done of task c.args.world.now after c.end.new.world ended.result ended.used c.end.result c.carry_out-result.ensures c.end.ensures.status zero in
    (task, c.in-Ok.ensures, done)

pub returns-in-Ok-clause-fault : goal.returns-in-Ok-clause-fault
returns-in-Ok-clause-fault g c = λ one.
    let of = known g.I.Read g.O.Write g.E.Write g.F.Files g.F.Disk.Disk in
    let task = c.in-Ok.task in
    let after = c.carry_out-result.new.world in
    let ended = c.carry_out-result.result in
    let end = c.end.ensures in
    let met = met_fault of task c.args.world.now after c.end.new.world ended.result ended.used c.end.result c.carry_out-result.ensures
    end.status end.rest end.refused end.reported one in
    inr (task, c.in-Ok.ensures, met)

pub returns-in-Err-clause-fault : goal.returns-in-Err-clause-fault
returns-in-Err-clause-fault g c = λ one. inl ((record { rest = c.refuse.ensures.rest; none = refl }, c.refuse.ensures.reported one))

pub returns-in-Ok-clause-headline : goal.returns-in-Ok-clause-headline
returns-in-Ok-clause-headline g c = λ disk used.
    let of = known g.I.Read g.O.Write g.E.Write g.F.Files g.F.Disk.Disk in
    promise_of of _ c.args.world.now c.carry_out-result.new.world c.end.new.world c.end.ensures.rest c.end.result c.carry_out-result.result.result
    (fails c.carry_out-result.result.result c.end.result (c.end.new.world ≡ c.carry_out-result.new.world) c.end.ensures.status)
    c.carry_out-result.result.used disk used c.in-Ok.task c.in-Ok.ensures c.carry_out-result.ensures

pub returns-in-Ok-clause-rehearsed : goal.returns-in-Ok-clause-rehearsed
returns-in-Ok-clause-rehearsed g c = λ film used.
    let of = known g.I.Read g.O.Write g.E.Write g.F.Files g.F.Disk.Disk in
    rehearsed_of of c.args.world.now c.carry_out-result.new.world c.end.result c.carry_out-result.result.result
    (fails c.carry_out-result.result.result c.end.result (c.end.new.world ≡ c.carry_out-result.new.world) c.end.ensures.status)
    c.carry_out-result.result.used film used c.end.new.world c.end.ensures.rest c.in-Ok.task c.carry_out-result.ensures

pub returns-in-Ok-clause-touches : goal.returns-in-Ok-clause-touches
returns-in-Ok-clause-touches g c =
    let of = known g.I.Read g.O.Write g.E.Write g.F.Files g.F.Disk.Disk in
    let task = c.in-Ok.task in
    let after = c.carry_out-result.new.world in
    let touched = touched_after of task c.args.world.now after c.end.new.world c.carry_out-result.result c.carry_out-result.ensures c.end.ensures.rest in
    inr (task, c.in-Ok.ensures, touched, left_after of task c.args.world.now after c.end.new.world c.carry_out-result.result c.carry_out-result.ensures c.end.ensures.rest)

pub returns-in-Err-clause-touches : goal.returns-in-Err-clause-touches
returns-in-Err-clause-touches g c = inl (ap (λ w. w.files) c.refuse.ensures.rest)
