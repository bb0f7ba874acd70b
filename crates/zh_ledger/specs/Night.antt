-- A night: what a ledger or an office is given, and stops and openings, on an honest disk that was formatted for it.
use Rattle.std.specs.Prelude.{◌≡◌, ◌⊎◌, ◌≤◌, ℕ, ◌+◌, IsTrue, false}
use Rattle.std.specs.Prelude.{List, [], ◌∷◌, ◌++◌, length, take, Option, Some, None, IfSome, Result, Ok, Err}
use Rattle.zh_disk.specs.Disk.{Moment, Trail, IsImage, settled}
use Rattle.zh_districts.specs.Canton.{Canton}
use Rattle.zh_returns.specs.Tally.{empty}
use Rattle.zh_returns.specs.Step.{after}
use Rattle.zh_returns.specs.declared.command.Command.{Command}
use Rattle.zh_ledger.specs.Ledger.{Ledger}
use Rattle.zh_ledger.specs.Stands.{HoldsLedger}
use Rattle.zh_ledger.specs.Images.{HasSome}
use Rattle.zh_ledger.specs.Opened.{IsNew}
use Rattle.zh_ledger.specs.Opening.{Opens}
use Rattle.zh_ledger.specs.Submissions.{OnDisk, Submission, Log, nothing, followed_by}
use Rattle.zh_ledger.specs.declared.outcome.Outcome.{Outcome}
use Rattle.zh_ledger.specs.declared.opening.OpenFault.{OpenFault}
use Rattle.zh_ledger.specs.declared.opening.OpenFault.TheVariants as faults

-- What keeps a count on a disk, a ledger or an office: its state (the holder), what it is given, and what it answers; the
-- ledger in it, and whether it was just opened; and what it does when it is given something, and what this adds to the log.
pub record Keeper : Type 1 where
  pub Holder : Type 0
  pub Given : Type 0
  pub Answer : Type 0
  pub ledger : Holder → Ledger
  pub begins : Holder → Type 0
  pub does : OnDisk Holder → Given → Answer → Log → OnDisk Holder → Type 0

pub data Event (K : Keeper) : Type 0 where
  -- the open holder is given this and answers with that
  answered : K.Given → K.Answer → Event K
  -- a stop comes at any moment of the work on what was given, before the answer
  stopped_within : K.Given → Event K
  -- a stop comes between two calls
  stopped : Event K
  -- an opening gives this holder
  opened : K.Holder → Event K
  -- an opening ends with this fault
  refused : OpenFault → Event K
  -- a stop comes within an opening
  stopped_opening : Event K

-- a stretch goes from one opening to the next: what the disk holds, the holder if one is open, and what was logged
pub record Stretch (K : Keeper) : Type 0 where
  pub now : Moment
  pub holder : Option K.Holder
  pub log : Log

-- a stop left these bytes, and no holder is open
abbrev pub after_stop : {K : Keeper} → List ℕ → Log → Stretch K
after_stop c log = record { now = settled c; holder = None; log = log }

-- the same commands, none of them acknowledged
abbrev pub unacknowledged : Log → Log
unacknowledged log = record { accepted = log.accepted; acknowledged = 0 }

-- the new trail is the old one, some moments later
abbrev pub GoesOn : Trail → Trail → Type 0
GoesOn old new = (between : List Moment) × (new.now ∷ new.past ≡ between ++ old.now ∷ old.past)

-- a stop at some moment of a call, from its start to its end, left these bytes
pub record StopsWithin (old new : Trail) (c : List ℕ) : Type 0 where
  pub at : Trail
  pub begun : GoesOn old at
  pub due : GoesOn at new
  pub image : IsImage at.now c

-- a call of the open holder begins at this moment and does this, on a disk that is honest until the call ends
pub record Works (K : Keeper) (s : Stretch K) (given : K.Given) (answer : K.Answer) (log : Log) (new : OnDisk K.Holder) : Type 0 where
  pub old : OnDisk K.Holder
  pub holder : s.holder ≡ Some old.holder
  pub now : s.now ≡ old.history.trail.now
  pub honest : IsTrue new.history.honest
  pub done : K.does old given answer log new

-- what each event makes of a stretch, by the contract of each call, or by a stop
abbrev pub Allows : {K : Keeper} → Canton → Stretch K → Event K → Stretch K → Type 0
Allows {K} canton s (answered given answer) t =
    (log : Log) × (new : OnDisk K.Holder) × Works K s given answer log new
    × (t ≡ record { now = new.history.trail.now; holder = Some new.holder; log = followed_by s.log log })
Allows {K} canton s (stopped_within given) t =
    (answer : K.Answer) × (log : Log) × (new : OnDisk K.Holder) × (c : List ℕ) × (by : Works K s given answer log new)
    × StopsWithin by.old.history.trail new.history.trail c × (t ≡ after_stop c (followed_by s.log (unacknowledged log)))
Allows {K} canton s stopped t = (c : List ℕ) × IsImage s.now c × (t ≡ after_stop c s.log)
Allows {K} canton s (opened holder) t =
    (old : Trail) × (new : Trail) × (s.now ≡ old.now) × Opens canton (Ok (K.ledger holder)) old new × K.begins holder
    × (t ≡ record { now = new.now; holder = Some holder; log = nothing })
Allows {K} canton s (refused fault) t =
    (old : Trail) × (new : Trail) × (s.now ≡ old.now) × Opens canton (Err fault) old new
    × (t ≡ record { now = new.now; holder = None; log = s.log })
Allows {K} canton s stopped_opening t =
    (old : Trail) × (new : Trail) × (result : Result Ledger OpenFault) × (c : List ℕ) × (s.now ≡ old.now)
    × Opens canton result old new × StopsWithin old new c × (t ≡ after_stop c s.log)

-- the events of a night, each with the stretch after it
abbrev pub IsNight : {K : Keeper} → Canton → Stretch K → List (Event K × Stretch K) → Type 0
IsNight canton s [] = Unit {0}
IsNight canton s (e ∷ es) = Allows canton s e.0 e.1 × IsNight canton e.1 es

-- the ledger counts what was kept and what was acknowledged; if it has met no fault, this is all that was accepted, and it
-- knows each image
pub record IsCurrent (canton : Canton) (kept : List Command) (now : Moment) (log : Log) (ledger : Ledger) : Type 0 where
  pub count : ledger.tally ≡ after (empty canton) (kept ++ take log.acknowledged log.accepted)
  pub all_acknowledged : ledger.store.broken ≡ false → log.acknowledged ≡ length log.accepted
  pub images : ledger.store.broken ≡ false → (c : List ℕ) → IsImage now c → HoldsLedger ledger c

-- Between two events, if the stretches before kept these commands: each image represents the count after these and a prefix of
-- those accepted since, which includes all that were acknowledged. At most one accepted command was not acknowledged.
pub record IsSound {K : Keeper} (canton : Canton) (kept : List Command) (s : Stretch K) : Type 0 where
  pub each : (c : List ℕ) → IsImage s.now c → HasSome (after (empty canton) kept) s.log.accepted s.log.acknowledged c
  pub last : length s.log.accepted ≤ s.log.acknowledged + 1
  pub ledger : IfSome s.holder (λ holder. IsCurrent canton kept s.now s.log (K.ledger holder))

-- an opening found the count after the commands that were kept before and a prefix of those accepted since, which includes all
-- that were acknowledged; each is counted once
pub record Finds (canton : Canton) (kept : List Command) (log : Log) (ledger : Ledger) : Type 0 where
  pub number : ℕ
  pub at_least : log.acknowledged ≤ number
  pub within : number ≤ length log.accepted
  pub count : ledger.tally ≡ after (empty canton) (kept ++ take number log.accepted)
  pub once : ledger.tally.accepted ≡ length (kept ++ take number log.accepted)

-- what an event says: an opening ends the stretch, and what it found is kept from then on; an opening that fails has the fault
-- `Memory` or `Device`; other events say nothing
abbrev pub Says : {K : Keeper} → Canton → List Command → Log → Event K → (List Command → Type 0) → Type 0
Says {K} canton kept log (opened holder) Then =
    (found : Finds canton kept log (K.ledger holder)) × Then (kept ++ take found.number log.accepted)
Says canton kept log (refused fault) Then = ((fault ≡ faults.Memory) ⊎ (fault ≡ faults.Device)) × Then kept
Says canton kept log event Then = Then kept

-- what the events of a night say, one after another
abbrev pub IsKeptAllNight : {K : Keeper} → Canton → List Command → Stretch K → List (Event K × Stretch K) → Type 0
IsKeptAllNight canton kept s [] = IsSound canton kept s
IsKeptAllNight canton kept s (e ∷ es) =
    IsSound canton kept s × Says canton kept s.log e.0 (λ more. IsKeptAllNight canton more e.1 es)

-- every image is one of a formatted disk, no holder is open yet, and nothing is logged
pub record IsFresh {K : Keeper} (canton : Canton) (s : Stretch K) : Type 0 where
  pub images : (c : List ℕ) → IsImage s.now c → IsNew canton c
  pub holder : s.holder ≡ None
  pub log : s.log ≡ nothing

abbrev pub Law : Keeper → Type 0
Law K = (canton : Canton) (s : Stretch K) (night : List (Event K × Stretch K))
    → IsFresh canton s → IsNight canton s night → IsKeptAllNight canton [] s night

-- a ledger that is given commands
abbrev pub by_commands : Keeper
by_commands = record {
  Holder = Ledger;
  Given = Command;
  Answer = Outcome;
  ledger = λ ledger. ledger;
  begins = λ ledger. Unit {0};
  does = λ old command outcome log new. (by : Submission old command outcome new) × (log ≡ by.log);
}
