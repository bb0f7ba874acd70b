use Rattle.std.proofs.Common.{rules, ◌∙◌, ap, refl}
use Rattle.zh_disk.proofs.CallerLemmas.{handed}
use Rattle.zh_snapshot.specs.Layout.{journal_at}
use Rattle.zh_snapshot.specs.Store.{State}
use Rattle.zh_snapshot.proofs.FrameLemmas.{store_fails, store_appends}
use Rattle.zh_snapshot.proofs.store.Store.append.Goals as goal

pub returns-in-Ok-clause-call : goal.returns-in-Ok-clause-call
returns-in-Ok-clause-call g c =
    handed refl
    (λ h by. store_appends _ c.args.payload.now c.args.self.now _ _ (ap (λ (s : State). s.area) c.self.view_is)
    (c.self.invariant.1 ∙ ap (λ (s : State). journal_at s.slot) c.self.view_is) (g.met.D.Disk.size c.args.disk.now h) by)
    c.in-Ok.ensures.call

pub returns-in-Err-Device-clause-call : goal.returns-in-Err-Device-clause-call
returns-in-Err-Device-clause-call g c =
    handed (rw c.in-Err-Device.field-0-is refl)
    (λ h by. store_fails _ c.args.payload.now c.args.self.now _ _ (ap (λ (s : State). s.area) c.self.view_is)
    (c.self.invariant.1 ∙ ap (λ (s : State). journal_at s.slot) c.self.view_is) (g.met.D.Disk.size c.args.disk.now h) _ _ by)
    c.in-Err-Device.ensures.call

pub returns-in-Err-Full-clause-broken : goal.returns-in-Err-Full-clause-broken
returns-in-Err-Full-clause-broken g c = search rules

pub returns-in-Err-Full-clause-full : goal.returns-in-Err-Full-clause-full
returns-in-Err-Full-clause-full g c = search rules

pub returns-in-Err-Device-clause-device : goal.returns-in-Err-Device-clause-device
returns-in-Err-Device-clause-device g c = search rules

pub returns-in-Ok-clause-broken : goal.returns-in-Ok-clause-broken
returns-in-Ok-clause-broken g c = search rules

pub returns-in-Err-Device-clause-broken : goal.returns-in-Err-Device-clause-broken
returns-in-Err-Device-clause-broken g c = search rules

pub returns-in-Ok-clause-device : goal.returns-in-Ok-clause-device
returns-in-Ok-clause-device g c = λ is. absurd (cc)
