use Rattle.std.proofs.Common.{◌≡◌, ◌∙◌, ◌+◌, inl, inr, length, arith, ap, refl}
use Rattle.zh_disk.proofs.CallerLemmas.{handed}
use Rattle.zh_returns.specs.Tally.{Tally}
use Rattle.zh_returns.specs.Step.{step, changed, on_verdict}
use Rattle.zh_returns.specs.declared.judgement.Verdict.{Verdict}
use Rattle.zh_returns.specs.declared.command.Format.TheVariants.{Two}
use Rattle.zh_returns.proofs.CallerLemmas.{short}
use Rattle.zh_snapshot.specs.Store.{State}
use Rattle.zh_ledger.specs.declared.outcome.Outcome.TheVariants.{Stored}
use Rattle.zh_ledger.proofs.KeptLemmas.{appended, append_failed}
use Rattle.zh_ledger.proofs.storage.append.Goals as goal

pub append-requires-clause-most : goal.append-requires-clause-most
append-requires-clause-most g c = omega (arith, short Two c.args.command.now c.requires.speakable, ap length c.requires.spelled)

pub returns-in-Ok-clause-call : goal.returns-in-Ok-clause-call
returns-in-Ok-clause-call g c =
    handed refl
    (λ h by. appended c.args.count.now c.args.store.now c.args.command.now c.requires.speakable c.requires.accept c.requires.number c.requires.room c.args.payload.now c.requires.spelled _ _ _ _ by)
    c.in-Ok.ensures.call

pub returns-in-Err-Device-clause-call : goal.returns-in-Err-Device-clause-call
returns-in-Err-Device-clause-call g c =
    handed (rw c.in-Err-Device.field-0-is refl)
    (λ h by. append_failed c.args.count.now c.args.store.now c.args.command.now c.requires.speakable c.requires.accept c.requires.number c.requires.room c.args.payload.now c.requires.spelled _ _ _ by)
    c.in-Err-Device.ensures.call

pub returns-in-Err-Device-clause-results : goal.returns-in-Err-Device-clause-results
returns-in-Err-Device-clause-results g c = inr refl

pub returns-in-Err-Device-clause-after : goal.returns-in-Err-Device-clause-after
returns-in-Err-Device-clause-after g c = record { tally = refl; broken = ap (λ (y : State). y.broken) (c.in-Err-Device.ensures.device (cc)) }

pub returns-in-Ok-clause-results : goal.returns-in-Ok-clause-results
returns-in-Ok-clause-results g c =
    let tally = c.args.count.now in
    let x = c.args.command.now in
    let stepped = c.count.ensures ∙ c.apply.ensures in
    let more : (step tally x).accepted ≡ tally.accepted + 1 = ap (λ (v : Verdict). (on_verdict v (changed tally x) tally).accepted) c.requires.accept in
    inl (ap Stored (c.accepted.ensures.accepted ∙ ap (λ (t : Tally). t.accepted) stepped ∙ more))
