use Rattle.std.proofs.Common.{◌≢◌, ◌-◌, ◌^◌, ap, refl, sym}
use Rattle.zh_disk.proofs.CallerLemmas.{no_call, handed}
use Rattle.zh_returns.specs.declared.command.Format.TheVariants.{One, Two}
use Rattle.zh_ledger.proofs.MigrationLemmas.{migrates_well, migrates_not, unmigrated}
use Rattle.zh_ledger.proofs.opening.migrate.Goals as goal

pub returns-in-Two-clause-call : goal.returns-in-Two-clause-call
returns-in-Two-clause-call g c = no_call refl (λ h. unmigrated c.args.format Two c.args.count.now c.args.store.now c.args.store.now _ _ (sym c.in-Two.is) refl refl)

pub returns-in-Ok-clause-call : goal.returns-in-Ok-clause-call
returns-in-Ok-clause-call g c =
    let room : c.args.store.now.generation ≢ 2 ^ 64 - 1 = λ last. let spent = c.switch.ensures.spent.1 last in cc in
    handed refl
    (λ h by. migrates_well c.args.count.now c.args.store.now c.switch.ensures.limits _ _ c.args.format c.in-One.is room c.switch.new.store c.in-Ok.ensures.ok by)
    c.in-Ok.ensures.call

pub returns-in-Err-Device-clause-call : goal.returns-in-Err-Device-clause-call
returns-in-Err-Device-clause-call g c =
    let room : c.args.store.now.generation ≢ 2 ^ 64 - 1 = λ last. let spent = c.switch.ensures.spent.1 last in cc in
    handed (rw c.in-Err-Device.field-0-is refl)
    (λ h by. migrates_not c.args.count.now c.args.store.now c.switch.ensures.limits _ _ c.args.format c.in-One.is room c.switch.new.store _ _ by)
    c.in-Err-Device.ensures.call

pub returns-in-Err-Spent-clause-call : goal.returns-in-Err-Spent-clause-call
returns-in-Err-Spent-clause-call g c =
    let still = c.in-Err-Spent.ensures.untouched (cc) in
    handed (rw c.in-Err-Spent.field-0-is refl)
    (λ h by. unmigrated c.args.format One c.args.count.now c.args.store.now c.switch.new.store _ _ (sym c.in-One.is) still.1 (ap (λ d. (g.D.Disk.history d).trail) still.0))
    c.in-Err-Spent.ensures.call
