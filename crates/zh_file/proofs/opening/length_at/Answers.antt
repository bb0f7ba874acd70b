use Rattle.std.proofs.Common.{◌≡◌, Err, rules}
use Rattle.std.specs.IoError.{error_kind}
use Rattle.zh_file.specs.Causes.{fault_of_kind}
use Rattle.zh_file.specs.Folder.{IsKind}
use Rattle.zh_file.specs.Places.{Places, found_at}
use Rattle.zh_file.proofs.LengthLemmas.{call_unmeasured, file_measured, folder_unmeasured, other_unmeasured}
use Rattle.zh_file.proofs.PlaceLemmas.{goes_same}
use Rattle.zh_file.proofs.NoteLemmas.{asked_meets, done_meets, folder_meets, special_meets}
use Rattle.zh_file.proofs.opening.length_at.Goals as goal

pub returns-in_err-found-clause-meets : goal.returns-in_err-found-clause-meets
returns-in_err-found-clause-meets g c =
    let is : c.from_residual.result ≡ Err (fault_of_kind (error_kind c.in_err-found.field-0.0)) = search rules in
    rw is (asked_meets c.args.path.now _ _ c.in_err-found.field-0.0 c.in_err-found.ensures.noted)

pub returns-in-File-clause-meets : goal.returns-in-File-clause-meets
returns-in-File-clause-meets g c = done_meets c.args.path.now _ _ _ (goes_same _ _ c.in_ok-found.ensures.noted)

pub returns-in-Folder-clause-meets : goal.returns-in-Folder-clause-meets
returns-in-Folder-clause-meets g c = folder_meets c.args.path.now _ _ (goes_same _ _ c.in_ok-found.ensures.noted)

pub returns-in-Other-clause-meets : goal.returns-in-Other-clause-meets
returns-in-Other-clause-meets g c = special_meets c.args.path.now _ _ (goes_same _ _ c.in_ok-found.ensures.noted)

pub returns-in_err-found-clause-measures : goal.returns-in_err-found-clause-measures
returns-in_err-found-clause-measures g c =
    let is : c.from_residual.result ≡ Err (fault_of_kind (error_kind c.in_err-found.field-0.0)) = search rules in
    let at = g.F.Folder.known in
    rw is (call_unmeasured (λ (places : Places). IsKind (found_at places c.args.path.now)) c.args.path.now c.in_err-found.field-0.0
    (at c.args.folder.now) (at c.kind.new.self) c.in_err-found.ensures.call c.in_err-found.ensures.why)

pub returns-in-File-clause-measures : goal.returns-in-File-clause-measures
returns-in-File-clause-measures g c =
    let at = g.F.Folder.known in
    let looks = rw c.in-File.is at c.in_ok-found.ensures.call in
    file_measured c.args.path.now (at c.args.folder.now) (at c.kind.new.self) c.in-File.length looks

pub returns-in-Folder-clause-measures : goal.returns-in-Folder-clause-measures
returns-in-Folder-clause-measures g c =
    let at = g.F.Folder.known in
    let looks = rw c.in-Folder.is at c.in_ok-found.ensures.call in
    folder_unmeasured c.args.path.now (at c.args.folder.now) (at c.kind.new.self) looks

pub returns-in-Other-clause-measures : goal.returns-in-Other-clause-measures
returns-in-Other-clause-measures g c =
    let at = g.F.Folder.known in
    let looks = rw c.in-Other.is at c.in_ok-found.ensures.call in
    other_unmeasured c.args.path.now (at c.args.folder.now) (at c.kind.new.self) looks
