use Rattle.zh_program.proofs.NoSheetLemmas.{no_memory, reason_before, told_so}
use Rattle.zh_program.proofs.seats_counted.why_none.Goals as goal

pub returns-in_default-clause-answer : goal.returns-in_default-clause-answer
returns-in_default-clause-answer c = no_memory c.args.totals.now

pub returns-in-Fault-clause-answer : goal.returns-in-Fault-clause-answer
returns-in-Fault-clause-answer c =
    let have = rw c.in-Fault.is at c.requires in
    rw c.told.ensures (told_so c.args.totals.now c.in-Fault.fault c.in-Ok.lot have.made)

pub returns-in-Fault-clause-reason : goal.returns-in-Fault-clause-reason
returns-in-Fault-clause-reason c =
    let have = rw c.in-Fault.is at c.requires in
    rw c.told.ensures (reason_before c.args.totals.now c.in-Fault.fault c.in-Ok.lot have.known (rw c.in-Fault.is at c.in-Ok.ensures))
