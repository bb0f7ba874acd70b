use Rattle.std.proofs.Common.{◌≡◌, List, ℕ, subst}
use Rattle.zh_disk.specs.History.{Call}
use Rattle.zh_returns.specs.declared.command.Format.TheVariants.{Two}
use Rattle.zh_returns.specs.Limits.{IsTally}
use Rattle.zh_returns.specs.Payload.{payload_spelling}
use Rattle.zh_snapshot.specs.Calls.{StoreSwitch}
use Rattle.zh_snapshot.specs.Faults.{store_switch_fails}
use Rattle.zh_ledger.proofs.SwitchLemmas.{whole_payload}
use Rattle.zh_ledger.proofs.storage.switch.Given.{Over}
use Rattle.zh_ledger.proofs.storage.switch.Goals as goal

-- the payload of the snapshot is that of the count
payload_is : (g : Over) (c : goal.After-switch g) → c.encode.new.out ≡ payload_spelling Two c.args.count.now
payload_is g c = whole_payload 262391 c.args.count.now c.count.result.now c.args.buffer.now c.encode.new.out c.requires.buffer c.count.ensures c.encode.ensures.spelling

pub returns-clause-call : goal.returns-clause-call
returns-clause-call g c =
    subst (λ (r : List ℕ). Call store_switch_fails (StoreSwitch c.args.store.now r) (g.D.Disk.history c.args.disk.now) (g.D.Disk.history c.switch.new.disk) c.switch.result)
    (payload_is g c) c.switch.ensures.call

pub returns-clause-limits : goal.returns-clause-limits
returns-clause-limits g c = subst IsTally c.count.ensures c.encode.ensures.limits
