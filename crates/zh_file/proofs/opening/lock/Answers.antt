use Rattle.zh_file.proofs.PlaceLemmas.{goes_itself}
use Rattle.zh_file.specs.Failures.{locked_with}
use Rattle.zh_file.proofs.CompanionLemmas.{known_cleared}
use Rattle.zh_file.proofs.NoteLemmas.{call_goes, lock_meets}
use Rattle.zh_file.proofs.opening.lock.Goals as goal

pub returns-in-Err-clause-meets : goal.returns-in-Err-clause-meets
returns-in-Err-clause-meets g c = rw c.fault_of_opening.ensures (lock_meets c.args.path.now _ _ c.in-Err.error c.in-Err.ensures.noted)

pub returns-clause-cleared : goal.returns-clause-cleared
returns-clause-cleared g c =
    let at = g.F.Folder.failed in
    let last = c.clear_companion-left_there.new.folder in
    known_cleared c.args.path.now (at c.args.folder.now) (at c.lock.new.self) (at last) (at last) (g.F.Folder.known last)
    (call_goes c.args.path.now locked_with c.lock.result (at c.args.folder.now) (at c.lock.new.self) c.lock.ensures.noted) (goes_itself (at last)) c.clear_companion-left_there.ensures.cleared
