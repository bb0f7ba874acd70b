use Rattle.std.proofs.Common.{arith}
use Rattle.zh_file.specs.Opening.{HasFailed, OpensOrMakesDisk}
use Rattle.zh_file.specs.Stored.{stored_history}
use Rattle.zh_file.proofs.TextLemmas.{same_texts}
use Rattle.zh_file.proofs.files.FolderFilesFiles.disk_or_make.Goals as goal

pub returns-clause-call : goal.returns-clause-call
returns-clause-call g c = record {
  texts = same_texts c.args.path.now
      (OpensOrMakesDisk (HasFailed g.F.File.Disk.is_clean g.F.File.Disk.faults) c.args.path.now (λ d. stored_history {g = g.F.File.Disk} d)
      c.open_or_make-opened.result)
      (λ x y opens. opens.touches) (g.F.Folder.known c.args.self.now.folder) (g.F.Folder.known c.open_or_make-opened.new.folder) c.open_or_make-opened.ensures.opens;
  disks = c.open_or_make-opened.ensures.disks;
  counted = omega (arith, c.add.ensures, c.open_or_make-opened.ensures.texts);
}
