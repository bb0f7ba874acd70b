-- How an office begins on the disk on which it was opened.
use Rattle.std.proofs.Common.{◌≡◌, ℕ, List, Result, Ok, Err, IfErr, ap, subst, arith}
use Rattle.zh_districts.specs.Canton.{Canton}
use Rattle.zh_office.specs.DeskBatches.{no_batches}
use Rattle.zh_disk.specs.History.{History, HasRisen}
use Rattle.zh_returns.specs.Tally.{Tally}
use Rattle.zh_snapshot.specs.Image.{Content, IsClean}
use Rattle.zh_snapshot.proofs.CallerLemmas.{framed_alike}
use Rattle.zh_ledger.specs.Faults.{open_fails}
use Rattle.zh_ledger.specs.Ledger.{Ledger}
use Rattle.zh_ledger.specs.Opening.{Opening}
use Rattle.zh_ledger.specs.Stands.{Holds, HoldsFramed, StandsFor}
use Rattle.zh_ledger.proofs.CallerLemmas.{knows_images}
use Rattle.zh_ledger.specs.Submissions.{OnDisk}
use Rattle.zh_ledger.specs.declared.opening.OpenFault.{OpenFault}
use Rattle.zh_office.specs.Office.{Office}
use Rattle.zh_office.proofs.CallerLemmas.{risen_since}
use Rattle.zh_program.specs.Opened.{IsOfDevice, IsStart, LeavesDisk}
use Rattle.zh_program.specs.declared.fault.TaskFault.{TaskFault}
use Rattle.zh_program.specs.declared.fault.TaskFault.TheVariants as faults

-- Clean bytes that represent a count hold it.
held_by : (bytes : List ℕ) (tally : Tally) → HoldsFramed tally bytes → (x : Content) (j : ℕ) → IsClean x j bytes → Holds tally bytes
held_by bytes tally stood x j clean =
    let alike = framed_alike stood.content x stood.end j bytes stood.framed clean.framed in
    record { content = x; end = j; format = stood.format; clean = clean; stands = subst (λ (y : Content). StandsFor stood.format y tally) alike.0 stood.stands }

-- An opened office is at its start.
pub starts : (canton : Canton) (first : History) (start : OnDisk Office)
    → Opening canton first start.history (Ok start.holder.ledger) → start.holder.held ≡ no_batches → IsStart canton first start
starts canton first start opening held = record {
  opening = opening;
  held = held;
  kept = λ h x j clean.
      let opens = opening.call.did h in
      let ledger = start.holder.ledger in
      knows_images canton first.trail start.history.trail ledger opens ledger.tally opening.ready.set_up (held_by first.trail.now.bytes ledger.tally opens.opened.stood x j clean);
}

-- What a task leaves of a disk after opening an office on it, it leaves of the disk from before the opening.
pub leaves_after : (canton : Canton) (first mid last : History) (ledger : Ledger) (result : Result (Unit {0}) TaskFault)
    → Opening canton first mid (Ok ledger) → LeavesDisk mid last result → LeavesDisk first last result
leaves_after canton first mid last ledger result opening leaves = record {
  kept = λ honest. opening.call.kept (leaves.kept honest);
  later = omega (arith, opening.call.counts.later, leaves.later);
  cause = at result leaves.cause;
}
  where
    at : (r : Result (Unit {0}) TaskFault) → IfErr r (λ fault. IsOfDevice fault → HasRisen mid.failures last.failures)
        → IfErr r (λ fault. IsOfDevice fault → HasRisen first.failures last.failures)
    at (Ok done) cause = tt
    at (Err fault) cause = λ is. risen_since first.failures mid.failures last.failures opening.call.counts.later (cause is)

-- If no office was opened.
pub refused_leaves : (canton : Canton) (first last : History) (fault : OpenFault) → Opening canton first last (Err fault) → LeavesDisk first last (Err (faults.Open fault))
refused_leaves canton first last fault by = record {
  kept = by.call.kept;
  later = by.call.counts.later;
  cause = λ is. by.call.counts.rose (ap (λ (f : OpenFault). open_fails {T = Ledger} (Err f)) is);
}

-- If nothing is done to the disk and the device is not reported.
pub untouched_leaves : (history : History) (result : Result (Unit {0}) TaskFault) → IfErr result (λ fault. IsOfDevice fault → ⊥) → LeavesDisk history history result
untouched_leaves history (Ok done) calm = record { kept = λ honest. honest; later = omega arith; cause = tt }
untouched_leaves history (Err fault) calm = record { kept = λ honest. honest; later = omega arith; cause = λ is. absurd (calm is) }
