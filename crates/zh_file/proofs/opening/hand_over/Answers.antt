use Rattle.std.proofs.Common.{inl, inr, ⊎_elim}
use Rattle.zh_file.proofs.PlaceLemmas.{goes_itself}
use Rattle.zh_file.specs.Locked.{setbacks_of}
use Rattle.zh_file.proofs.NoteLemmas.{done_meets, unlocked_meets}
use Rattle.zh_file.proofs.LockedLemmas.{same_moments}
use Rattle.zh_file.proofs.opening.hand_over.Goals as goal

pub returns-in-Ok-clause-opening : goal.returns-in-Ok-clause-opening
returns-in-Ok-clause-opening g c = λ left at. c.in-Ok.ensures.left left
    (c.start.ensures.kept at.0, same_moments g.F.File.Disk _ _ c.start.ensures.opening left at.1)

pub returns-in-Err-clause-leaves : goal.returns-in-Err-clause-leaves
returns-in-Err-clause-leaves g c = λ left here. ⊎_elim (λ of. inl (c.in-Err.ensures.left left of)) (λ was. inr was) ((c.unlock.ensures.unlocks.leaves left).0 here)

pub returns-in-Ok-clause-meets : goal.returns-in-Ok-clause-meets
returns-in-Ok-clause-meets g c = done_meets c.args.path.now _ _ _ (goes_itself (g.F.Folder.failed c.args.folder.now))

pub returns-in-Err-clause-meets : goal.returns-in-Err-clause-meets
returns-in-Err-clause-meets g c = unlocked_meets c.args.path.now (setbacks_of g.F.File.Disk c.measure.new.self) c.in-Err.fault _ _ c.unlock.ensures.noted c.in-Err.ensures.met
