use Rattle.std.proofs.Common.{rules, refl, ◌≡◌, Err}
use Rattle.zh_returns.specs.Tally.{Tally}
use Rattle.zh_program.specs.World.{known}
use Rattle.zh_program.specs.Query.{MayShow}
use Rattle.zh_program.specs.Shown.{Shows}
use Rattle.zh_program.specs.declared.fault.TaskFault.TheVariants as faults
use Rattle.zh_program.proofs.ReadingLemmas.{not_opened, was_read}
use Rattle.zh_program.proofs.ShownLemmas.{shows, shows_beside, shows_calm}
use Rattle.zh_program.proofs.query.show.Goals as goal

pub returns-in_err-office : goal.returns-in_err-office
returns-in_err-office g c =
    let of = known g.I.Read g.O.Write g.E.Write g.F.Files g.F.Disk.Disk in
    let Reads = λ (tally : Tally). Shows of (MayShow c.args.query tally) in
    let is : c.from_residual.result ≡ Err (faults.Open c.in_err-office.field-0.0) = search rules in
    rw is (not_opened of Reads c.args.setup.now c.args.world.now c.args.disk.now c.open.new.disk c.in_err-office.field-0.0 c.in_err-office.ensures.opening)

pub returns-in_err-shown : goal.returns-in_err-shown
returns-in_err-shown g c =
    let of = known g.I.Read g.O.Write g.E.Write g.F.Files g.F.Disk.Disk in
    let Reads = λ (tally : Tally). Shows of (MayShow c.args.query tally) in
    let old = c.args.world.now in
    let opened = c.in_ok-office.ensures in
    let is : c.from_residual-in_err-shown.result ≡ Err faults.Memory = search rules in
    rw is (was_read of Reads c.args.setup.now old c.args.disk.now c.open.new.disk c.in_ok-office.office opened.opening opened.held old (Err faults.Memory) refl refl tt)

pub returns : goal.returns
returns g c =
    let of = known g.I.Read g.O.Write g.E.Write g.F.Files g.F.Disk.Disk in
    let Reads = λ (tally : Tally). Shows of (MayShow c.args.query tally) in
    let old = c.args.world.now in
    let new = c.write_shown.new.world in
    let office = c.in_ok-office.office in
    let opened = c.in_ok-office.ensures in
    let May = MayShow c.args.query office.ledger.tally in
    let written = c.write_shown.ensures in
    let done = shows of old new May c.in_ok-shown.shown c.write_shown.result c.in_ok-shown.ensures written.rest written.written in
    was_read of Reads c.args.setup.now old c.args.disk.now c.open.new.disk office opened.opening opened.held new c.write_shown.result done
    (shows_beside of old new written.rest) (shows_calm of old new May c.write_shown.result done)
