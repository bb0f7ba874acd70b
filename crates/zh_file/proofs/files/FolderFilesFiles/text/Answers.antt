use Rattle.zh_file.proofs.NoteLemmas.{text_meets}
use Rattle.zh_file.proofs.files.FolderFilesFiles.text.Goals as goal

pub returns-clause-meets : goal.returns-clause-meets
returns-clause-meets g c =
    let at = g.F.Folder.failed in
    rw c.noted.ensures.same (text_meets c.args.path.now c.text.result c.map_err-opened.result (at c.args.self.now.folder) (at c.text.new.self) c.text.ensures.noted c.map_err-opened.ensures.cases)
