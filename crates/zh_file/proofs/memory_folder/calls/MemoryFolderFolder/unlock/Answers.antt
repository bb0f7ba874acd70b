use Rattle.std.proofs.Common.{refl}
use Rattle.zh_file.proofs.memory_folder.calls.MemoryFolderFolder.unlock.Goals as goal

pub returns-clause-unlocks : goal.returns-clause-unlocks
returns-clause-unlocks g c = record {
  disks = refl;
  same = refl;
  leaves = λ left. rw c.note_unlocked.ensures.unlocked ((λ h. h), (λ h. h));
}
