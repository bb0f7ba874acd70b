use Rattle.std.proofs.Common.{◌∙◌, ap}
use Rattle.zh_film.specs.Past.{items, number}
use Rattle.zh_file.specs.MemoryFolder.{disk_in}
use Rattle.zh_file.specs.Notes.{unlocked_among}
use Rattle.zh_file.proofs.MemoryLemmas.{both_disks}
use Rattle.zh_file.proofs.memory_folder.calls.MemoryFolderFolder.lock.Goals as goal

pub returns-clause-rest : goal.returns-clause-rest
returns-clause-rest g c = record {
  disks = ap disk_in c.note_lock.ensures.rest
      ∙ both_disks c.args.path.now c.args.self.now c.lock_at-locked.new.self c.lock_at-locked.ensures.made;
  leaves = λ left here. rw (c.note_lock.ensures.unlocked ∙ ap (λ f. unlocked_among (items f.notes)) c.lock_at-locked.ensures.rest) at here;
  unasked = ap (λ f. number f.asked) c.note_lock.ensures.rest ∙ ap (λ f. number f.asked) c.lock_at-locked.ensures.rest;
}

pub returns-in-Ok-clause-rest : goal.returns-in-Ok-clause-rest
returns-in-Ok-clause-rest g c = record {
  disks = ap disk_in c.note_lock.ensures.rest
      ∙ both_disks c.args.path.now c.args.self.now c.lock_at-locked.new.self c.lock_at-locked.ensures.made;
  leaves = λ left here. rw (c.note_lock.ensures.unlocked ∙ ap (λ f. unlocked_among (items f.notes)) c.lock_at-locked.ensures.rest) at here;
  unasked = ap (λ f. number f.asked) c.note_lock.ensures.rest ∙ ap (λ f. number f.asked) c.lock_at-locked.ensures.rest;
}
