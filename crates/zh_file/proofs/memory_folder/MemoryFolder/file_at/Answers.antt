use Rattle.std.proofs.Common.{◌∙◌, ap, sym}
use Rattle.sqlite_disk.specs.declared.memory.Memory.{Memory}
use Rattle.zh_file.specs.Places.Standing.{file}
use Rattle.zh_file.proofs.MemoryLemmas.{written_whole}
use Rattle.zh_file.proofs.memory_folder.MemoryFolder.file_at.Goals as goal

pub returns-clause-bytes : goal.returns-clause-bytes
returns-clause-bytes g c = c.in_ok-bytes.ensures.bytes ∙ sym (ap file (ap (λ (m : Memory). m.bytes.items) c.new.ensures.file ∙ c.sync.ensures.seen
    ∙ written_whole c.deref.result.now c.new-file.result.bytes.items c.write_at.new.self.bytes.items c.new-file.ensures.empty c.write_at.ensures.others c.in_ok-write_at.ensures.written
    ∙ c.deref.ensures.value))
