use Rattle.std.proofs.Common.{◌∙◌, ap}
use Rattle.zh_film.specs.Past.{items, number}
use Rattle.zh_file.specs.MemoryFolder.{disk_in}
use Rattle.zh_file.specs.Notes.{unlocked_among}
use Rattle.zh_file.proofs.MemoryLemmas.{made_disks}
use Rattle.zh_file.proofs.memory_folder.calls.MemoryFolderFolder.make.Goals as goal

pub returns-clause-rest : goal.returns-clause-rest
returns-clause-rest g c = record {
  disks = ap disk_in c.note.ensures.rest
      ∙ made_disks c.args.path.now c.args.self.now c.make_at-made.new.self c.make_at-made.ensures.made c.make_at-made.ensures.others;
  leaves = λ left here. rw (c.note.ensures.unlocked ∙ ap (λ f. unlocked_among (items f.notes)) c.make_at-made.ensures.rest) at here;
  unasked = ap (λ f. number f.asked) c.note.ensures.rest ∙ ap (λ f. number f.asked) c.make_at-made.ensures.rest;
}
