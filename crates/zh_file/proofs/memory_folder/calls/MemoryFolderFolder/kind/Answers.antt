use Rattle.std.proofs.Common.{◌∙◌, ap}
use Rattle.zh_film.specs.Past.{items, number}
use Rattle.zh_file.specs.MemoryFolder.{disk_in}
use Rattle.zh_file.specs.Notes.{unlocked_among}
use Rattle.zh_file.proofs.memory_folder.calls.MemoryFolderFolder.kind.Goals as goal

pub returns-clause-rest : goal.returns-clause-rest
returns-clause-rest g c = record {
  disks = ap disk_in c.note.ensures.rest ∙ ap disk_in c.kind_at-found.ensures.rest;
  leaves = λ left here. rw (c.note.ensures.unlocked ∙ ap (λ f. unlocked_among (items f.notes)) c.kind_at-found.ensures.rest) at here;
  unasked = ap (λ f. number f.asked) c.note.ensures.rest ∙ ap (λ f. number f.asked) c.kind_at-found.ensures.rest;
}
