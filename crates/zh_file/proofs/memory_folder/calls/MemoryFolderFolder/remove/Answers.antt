use Rattle.std.proofs.Common.{◌∙◌, ap}
use Rattle.zh_film.specs.Past.{items, number}
use Rattle.zh_file.specs.MemoryFolder.{disk_in}
use Rattle.zh_file.specs.Notes.{unlocked_among}
use Rattle.zh_file.proofs.MemoryLemmas.{acts_removed, gone_after, removed_disks}
use Rattle.zh_file.proofs.memory_folder.calls.MemoryFolderFolder.remove.Goals as goal

pub returns-clause-rest : goal.returns-clause-rest
returns-clause-rest g c = record {
  disks = ap disk_in c.note.ensures.rest
      ∙ removed_disks c.args.path.now c.args.self.now c.remove_at-removed.new.self c.remove_at-removed.result c.requires.empty
      c.remove_at-removed.ensures.removed c.remove_at-removed.ensures.err;
  leaves = λ left here. rw (c.note.ensures.unlocked ∙ ap (λ f. unlocked_among (items f.notes)) c.remove_at-removed.ensures.rest) at here;
  unasked = ap (λ f. number f.asked) c.note.ensures.rest ∙ ap (λ f. number f.asked) c.remove_at-removed.ensures.rest;
}

pub returns-clause-call : goal.returns-clause-call
returns-clause-call g c = acts_removed c.args.path.now c.args.self.now c.remove_at-removed.new.self c.note.new.self c.remove_at-removed.result c.note.result
    c.note.ensures.result c.remove_at-removed.ensures.rest c.note.ensures.rest c.remove_at-removed.ensures.removed c.remove_at-removed.ensures.err c.note.ensures.counted

pub returns-clause-gone : goal.returns-clause-gone
returns-clause-gone g c = gone_after c.args.path.now c.args.self.now c.remove_at-removed.new.self c.note.new.self c.remove_at-removed.result c.note.result
    c.note.ensures.result c.note.ensures.rest c.remove_at-removed.ensures.removed
