use Rattle.std.proofs.Common.{◌≡◌, refl, sym, subst, ap, true, arith}
use Rattle.std.proofs.lemmas.Grind.{common_steps}
use Rattle.zh_disk.proofs.CallerLemmas.{told, handed, followed}
use Rattle.zh_returns.specs.Limits.{IsTally}
use Rattle.zh_returns.proofs.CallerLemmas.{speakable}
use Rattle.zh_ledger.specs.Ledger.{Ledger, Becomes, has_room}
use Rattle.zh_ledger.specs.Images.{KeepsCommand}
use Rattle.zh_ledger.specs.Ledger.{ledger_of}
use Rattle.zh_ledger.proofs.RoomLemmas.{room_ready}
use Rattle.zh_ledger.proofs.ReadyLemmas.{becomes_ready, keeps_once_ready, not_made_ready}
use Rattle.zh_ledger.proofs.OutsideLemmas.{outside_untouched}
use Rattle.zh_ledger.proofs.storage.keep.Goals as goal

pub make_room-requires-clause-speakable : goal.make_room-requires-clause-speakable
make_room-requires-clause-speakable g c = speakable c.args.count.now c.args.command.now (subst IsTally c.count.ensures c.accepted.ensures.limits) c.requires.numbers c.requires.accept

pub append-requires-clause-speakable : goal.append-requires-clause-speakable
append-requires-clause-speakable g c = speakable c.args.count.now c.args.command.now (subst IsTally c.count.ensures c.accepted.ensures.limits) c.requires.numbers c.requires.accept

pub append-requires-clause-room : goal.append-requires-clause-room
append-requires-clause-room g c =
    let s = ledger_of c.args.count.now c.args.store.now in
    let x = c.args.command.now in
    let spoken = speakable c.args.count.now x (subst IsTally c.count.ensures c.accepted.ensures.limits) c.requires.numbers c.requires.accept in
    subst (λ (l : Ledger). has_room l x ≡ true) (sym c.in-Ok.ensures.ok) (room_ready s x spoken)

pub returns-in-Ok-clause-after : goal.returns-in-Ok-clause-after
returns-in-Ok-clause-after g c =
    let s = ledger_of c.args.count.now c.args.store.now in
    let x = c.args.command.now in
    let spoken = speakable c.args.count.now x (subst IsTally c.count.ensures c.accepted.ensures.limits) c.requires.numbers c.requires.accept in
    becomes_ready s x _ c.append.result (ledger_of c.append.new.count c.append.new.store) spoken c.append.ensures.results
    (subst (λ (l : Ledger). Becomes l x c.append.result (ledger_of c.append.new.count c.append.new.store)) c.in-Ok.ensures.ok c.append.ensures.after)

pub returns-in-Ok-clause-call : goal.returns-in-Ok-clause-call
returns-in-Ok-clause-call g c =
    let s = ledger_of c.args.count.now c.args.store.now in
    let x = c.args.command.now in
    let spoken = speakable c.args.count.now x (subst IsTally c.count.ensures c.accepted.ensures.limits) c.requires.numbers c.requires.accept in
    let u = (g.D.Disk.history c.make_room.new.disk).trail in
    let v = (g.D.Disk.history c.append.new.disk).trail in
    told
    (λ h by. keeps_once_ready s x spoken _ _ u v by.1 _ c.append.result c.append.ensures.results
    (subst (λ (l : Ledger). KeepsCommand l x c.append.result u v) c.in-Ok.ensures.ok by.2))
    (followed refl c.in-Ok.ensures.call c.append.ensures.call)

pub returns-in-Err-Device-clause-call : goal.returns-in-Err-Device-clause-call
returns-in-Err-Device-clause-call g c =
    handed (rw c.in-Err-Device.field-0-is refl) (λ h by. not_made_ready (ledger_of c.args.count.now c.args.store.now) c.args.command.now _ _ _ by) c.in-Err-Device.ensures.call

pub returns-in-Err-Spent-clause-after : goal.returns-in-Err-Spent-clause-after
returns-in-Err-Spent-clause-after g c = ap (ledger_of c.args.count.now) (c.in-Err-Spent.ensures.untouched (cc)).1

pub returns-in-Err-Spent-clause-call : goal.returns-in-Err-Spent-clause-call
returns-in-Err-Spent-clause-call g c =
    let same = ap (λ d. (g.D.Disk.history d).trail) (c.in-Err-Spent.ensures.untouched (cc)).0 in
    handed (rw c.in-Err-Spent.field-0-is refl) (λ h by. record { leaves = same; outside = outside_untouched _ _ same }) c.in-Err-Spent.ensures.call

pub returns-in-Err-Spent-clause-untouched : goal.returns-in-Err-Spent-clause-untouched
returns-in-Err-Spent-clause-untouched g c = λ is. (c.in-Err-Spent.ensures.untouched (cc)).0

pub returns-in-Err-Device-clause-after : goal.returns-in-Err-Device-clause-after
returns-in-Err-Device-clause-after g c = record { tally = refl; broken = c.in-Err-Device.ensures.device (cc) }

pub returns-in-Ok-clause-results : goal.returns-in-Ok-clause-results
returns-in-Ok-clause-results g c = grind (arith, common_steps)

pub returns-in-Err-Device-clause-results : goal.returns-in-Err-Device-clause-results
returns-in-Err-Device-clause-results g c = grind (arith, common_steps)
