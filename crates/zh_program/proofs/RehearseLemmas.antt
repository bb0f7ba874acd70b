-- The office of a rehearsal.
use Rattle.std.proofs.Common.{◌≡◌, ◌∙◌, ℕ, List, Result, Err, refl, sym, ap, subst, IsTrue}
use Rattle.zh_districts.specs.Canton.{Canton}
use Rattle.zh_setups.specs.Rehearsal.{rehearsal}
use Rattle.zh_disk.specs.Disk.{Moment, IsImage}
use Rattle.zh_disk.specs.History.{History}
use Rattle.zh_returns.specs.Tally.{empty}
use Rattle.zh_ledger.specs.Ledger.{Ledger}
use Rattle.zh_ledger.specs.Opened.{IsNew, IsReady}
use Rattle.zh_ledger.specs.Stands.{HoldsFramed}
use Rattle.zh_ledger.specs.Submissions.{OnDisk}
use Rattle.zh_ledger.proofs.CallerLemmas.{one_count}
use Rattle.zh_office.specs.Office.{Office}
use Rattle.zh_program.specs.Opened.{IsFrom}
use Rattle.zh_program.specs.Rehearse.{IsRehearsal, Rehearsed}
use Rattle.zh_program.specs.Run.{ServedBy, Streams}
use Rattle.zh_program.specs.declared.fault.TaskFault.{TaskFault}
use Rattle.zh_program.specs.declared.fault.TaskFault.TheVariants as faults

-- An office opened on a new disk has an empty count.
opened_empty : (canton : Canton) (m : Moment) (s : Ledger) → ((c : List ℕ) → IsImage m c → IsNew canton c) → IsReady canton s → HoldsFramed s.tally m.bytes → s.tally ≡ empty canton
opened_empty canton m s formatted ready stood =
    let new = formatted m.bytes (record { size = refl; same = λ k settled. refl }) in
    (one_count m.bytes stood.content new.content stood.end new.end stood.format new.format s.tally (empty canton) stood.framed new.clean.framed stood.stands new.stands ready.set_up).1

-- The office of the rehearsal.
pub rehearses : (canton : Canton) (first last : History) (start end : OnDisk Office) → canton ≡ rehearsal → IsTrue last.honest → ((c : List ℕ) → IsImage first.trail.now c → IsNew canton c)
    → IsFrom canton first last start end → IsRehearsal start end
rehearses canton first last start end is sure formatted from =
    let opens = from.begun.opening.call.did (from.honest sure) in
    record {
      count = opened_empty canton first.trail.now start.holder.ledger formatted from.begun.opening.ready opens.opened.stood ∙ ap empty is;
      held = from.begun.held;
      whole = from.begun.opening.ready.whole;
      honest = subst (λ (h : History). IsTrue h.honest) (sym from.ended) sure;
    }

-- Lines that were served by such an office.
pub rehearsed : (nothing : Type 0) (old new : Streams) (result : Result (Unit {0}) TaskFault) → ServedBy old new IsRehearsal result → Rehearsed nothing old new result
rehearsed nothing old new (Err faults.Memory) by = absurd by.did
rehearsed nothing old new result by = by
