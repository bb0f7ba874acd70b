use Rattle.std.proofs.Common.{◌∙◌, ap}
use Rattle.zh_film.specs.Past.{items, number}
use Rattle.zh_file.specs.MemoryFolder.{disk_in}
use Rattle.zh_file.specs.Notes.{unlocked_among}
use Rattle.zh_file.proofs.memory_folder.calls.MemoryFolderFolder.text.Goals as goal

pub returns-clause-rest : goal.returns-clause-rest
returns-clause-rest g c = record {
  disks = ap disk_in c.note.ensures.rest ∙ ap disk_in c.text_at-text.ensures.rest;
  leaves = λ left here. rw (c.note.ensures.unlocked ∙ ap (λ f. unlocked_among (items f.notes)) c.text_at-text.ensures.rest) at here;
  counted = ap (λ f. number f.asked) c.note.ensures.rest ∙ ap (λ f. number f.asked) c.text_at-text.ensures.rest ∙ c.add.ensures;
}
