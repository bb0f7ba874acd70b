-- What a task leaves of a disk on which it opens an office.
use Rattle.std.specs.Prelude.{◌≡◌, ◌≤◌, ◌+◌, ℕ, List, length, Result, Ok, Err, IfErr, IsTrue}
use Rattle.zh_districts.specs.Canton.{Canton}
use Rattle.zh_returns.specs.Tally.{Tally}
use Rattle.zh_office.specs.DeskBatches.{no_batches}
use Rattle.zh_disk.specs.Disk.{Trail, IsImage, Leaves}
use Rattle.zh_disk.specs.History.{History, HasRisen}
use Rattle.zh_snapshot.specs.Image.{Content, IsClean}
use Rattle.zh_ledger.specs.Opening.{Opening}
use Rattle.zh_ledger.specs.Images.{HasSome}
use Rattle.zh_ledger.specs.Stands.{HoldsLedger}
use Rattle.zh_ledger.specs.Submissions.{Log, OnDisk}
use Rattle.zh_ledger.specs.declared.opening.OpenFault.TheVariants as opening
use Rattle.zh_office.specs.Office.{Office}
use Rattle.zh_program.specs.declared.fault.TaskFault.{TaskFault}
use Rattle.zh_program.specs.declared.fault.TaskFault.TheVariants as faults

-- An office just after it was opened on the disk with this history.
pub record IsStart (canton : Canton) (first : History) (start : OnDisk Office) : Type 0 where
  pub opening : Opening canton first start.history (Ok start.holder.ledger)
  pub held : start.holder.held ≡ no_batches
  -- If the bytes were clean, as a formatting and each run leave them, every image of the disk is one that the ledger knows.
  pub kept : IsTrue start.history.honest → (x : Content) (j : ℕ) → IsClean x j first.trail.now.bytes
      → (c : List ℕ) → IsImage start.history.trail.now c → HoldsLedger start.holder.ledger c

-- The office was opened on a disk with the history `first`; at the end its disk has the history `last`, which is honest only if
-- it was honest after the opening.
pub record IsFrom (canton : Canton) (first last : History) (start end : OnDisk Office) : Type 0 where
  pub begun : IsStart canton first start
  pub ended : end.history ≡ last
  pub honest : IsTrue last.honest → IsTrue start.history.honest

-- An office was opened, and nothing else was done to its disk.
abbrev pub IsOnlyOpened : (OnDisk Office → OnDisk Office → Type 0) → Type 0
IsOnlyOpened Spans = (start : OnDisk Office) × Spans start start

-- The fault reports that the device failed, while the office was opened or later.
abbrev pub IsOfDevice : TaskFault → Type 0
IsOfDevice (faults.Open fault) = fault ≡ opening.Device
IsOfDevice faults.Faulted = Unit {0}
IsOfDevice fault = ⊥

-- What every task leaves of its disk's history, whatever its result: no failure is forgotten, a reported failure happened, and
-- a disk that is honest now was honest before.
pub record LeavesDisk (first last : History) (result : Result (Unit {0}) TaskFault) : Type 0 where
  pub kept : IsTrue last.honest → IsTrue first.honest
  pub later : first.failures ≤ last.failures
  pub cause : IfErr result (λ fault. IsOfDevice fault → HasRisen first.failures last.failures)

-- An office was opened on a disk and then this was done with it; or opening it failed and nothing else was done.
abbrev pub WithOffice : Canton → History → History → Type 0
    → ((OnDisk Office → OnDisk Office → Type 0) → Result (Unit {0}) TaskFault → Type 0) → Result (Unit {0}) TaskFault → Type 0
WithOffice canton first last nothing Does (Err (faults.Open fault)) = nothing × Opening canton first last (Err fault)
WithOffice canton first last nothing Does result = Does (IsFrom canton first last) result

-- What the commands of this log leave of an open disk, from one trail to the other: at each moment, each image holds this count
-- with a prefix of the accepted commands, in order; at the end the prefix has every acknowledged command. At most one accepted
-- command is not acknowledged.
pub record KeepsAll (tally : Tally) (log : Log) (first last : Trail) : Type 0 where
  pub each_moment : Leaves (λ old new. HasSome tally log.accepted 0 new) first last
  pub in_the_end : (c : List ℕ) → IsImage last.now c → HasSome tally log.accepted log.acknowledged c
  pub all_but_one : length log.accepted ≤ log.acknowledged + 1
