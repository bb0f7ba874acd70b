use Rattle.std.proofs.Common.{arith}
use Rattle.zh_file.specs.Opening.{HasFailed, OpensDisk}
use Rattle.zh_file.specs.Stored.{stored_history}
use Rattle.zh_file.proofs.TextLemmas.{same_texts}
use Rattle.zh_file.proofs.files.FolderFilesFiles.disk.Goals as goal

pub returns-clause-call : goal.returns-clause-call
returns-clause-call g c = record {
  texts = same_texts c.args.path.now
      (OpensDisk (HasFailed g.F.File.Disk.is_clean g.F.File.Disk.faults) c.args.path.now (λ d. (stored_history {g = g.F.File.Disk} d).trail.now.bytes) c.open-opened.result)
      (λ x y opens. opens.touches) (g.F.Folder.known c.args.self.now.folder) (g.F.Folder.known c.open-opened.new.folder) c.open-opened.ensures.opens;
  disks = c.open-opened.ensures.disks;
  counted = omega (arith, c.add.ensures, c.open-opened.ensures.texts);
}
