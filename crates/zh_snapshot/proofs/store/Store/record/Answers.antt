use Rattle.std.proofs.Common.{ℕ, sym, ◌∙◌, ap, subst}
use Rattle.std.proofs.lemmas.Result.{IfOk-weaker}
use Rattle.zh_disk.proofs.CallerLemmas.{told, asks_so}
use Rattle.zh_journal.specs.Pages.{ReadsRecords}
use Rattle.zh_snapshot.specs.Layout.{journal_at}
use Rattle.zh_snapshot.specs.Store.{State}
use Rattle.zh_snapshot.proofs.SlotLemmas.{held}
use Rattle.zh_snapshot.proofs.store.Store.record.Goals as goal

pub returns-clause-call : goal.returns-clause-call
returns-clause-call g c =
    let base = c.self.invariant.1 ∙ ap (λ (s : State). journal_at s.slot) c.self.view_is in
    told
    (λ h by. asks_so (λ given x j framed used low.
    let b = (g.D.Disk.history c.args.disk.now).trail.now.bytes in
    let reads = subst (λ (n : ℕ). ReadsRecords n b x.records j) (sym base) (held c.args.self.now.slot x j b used framed).records in
    IfOk-weaker c.record.result _ _ (λ payload gives. gives.payload x.records j reads low) given) by)
    c.record.ensures.call
