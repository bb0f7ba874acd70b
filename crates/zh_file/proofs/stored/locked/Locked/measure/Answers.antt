use Rattle.std.proofs.Common.{◌≡◌, Err, rules}
use Rattle.std.specs.IoError.{error_kind}
use Rattle.zh_film.specs.Past.{items}
use Rattle.zh_file.proofs.NoteLemmas.{last_kind, used_fault}
use Rattle.zh_file.proofs.LockedLemmas.{asked_leaves, stay_step}
use Rattle.zh_file.proofs.stored.locked.Locked.measure.Goals as goal

pub returns-clause-left : goal.returns-clause-left
returns-clause-left g c = asked_leaves g.D.Disk c.len.result c.args.self.now c.len.new.self c.len.ensures.call

pub returns-clause-leaves : goal.returns-clause-leaves
returns-clause-leaves g c = stay_step (g.D.Disk.may_leave c.args.self.now.file) (g.D.Disk.may_leave c.len.new.self.file) c.len.ensures.call.leaves

pub returns-in-Err-clause-met : goal.returns-in-Err-clause-met
returns-in-Err-clause-met g c =
    let is : c.len.result ≡ Err c.in-Err.error = search rules in
    rw c.fault_of_found.ensures (used_fault g.D.Disk c.len.new.self (error_kind c.in-Err.error)
    (last_kind c.len.result c.in-Err.error (items c.args.self.now.failed) (items c.len.new.self.failed) is c.len.ensures.call.failed))
