-- A run.
use Rattle.std.specs.Prelude.{◌≡◌, ◌^◌, ℕ, Bool, true, false, List, [], Option, Result, Ok, Err}
use Rattle.zh_districts.specs.Canton.{Canton}
use Rattle.zh_film.specs.Frames.{Frame, frames}
use Rattle.zh_film.specs.Scenes.{scenes}
use Rattle.zh_ledger.specs.Submissions.{OnDisk}
use Rattle.zh_office.specs.Office.{Office}
use Rattle.zh_office.specs.Served.{EndsWithinReads, IsReadWithin, MakesAllReads, ReadsOf, Serves, Session}
use Rattle.zh_office.specs.declared.service.ServeFault.TheVariants as serving
use Rattle.zh_program.specs.World.{Known, FilmedOf, WorldOf}
use Rattle.zh_program.specs.Opened.{LeavesDisk, WithOffice}
use Rattle.zh_program.specs.declared.fault.TaskFault.{TaskFault}
use Rattle.zh_program.specs.declared.fault.TaskFault.TheVariants as faults

-- The bytes left in the input and the answers written, if known, and what a film shows: a session without its office, which the
-- task opens and drops.
pub record Streams : Type 0 where
  pub left : Option (List ℕ)
  pub written : Option (List ℕ)
  pub film : List Frame

abbrev pub streams : Option (List ℕ) → Option (List ℕ) → List Frame → Streams
streams left written film = record { left = left; written = written; film = film }

-- The session of an office with these streams.
abbrev pub beside : Streams → OnDisk Office → Session
beside s office = record { written = s.written; office = office; left = s.left; film = s.film }

-- An office, from `start` to `end`, did this with the streams.
pub record ByOffice (old new : Streams) (Spans : OnDisk Office → OnDisk Office → Type 0) (Did : Session → Session → Type 0) : Type 0 where
  pub start : OnDisk Office
  pub end : OnDisk Office
  pub spans : Spans start end
  pub did : Did (beside old start) (beside new end)

-- All lines of the input were answered. `faulted` says whether the device failed while they were.
abbrev pub ServesWhole : Bool → Session → Session → Type 0
ServesWhole faulted old new = (count : ℕ) × Serves old new (Ok count) × (new.office.holder.ledger.store.broken ≡ faulted)

-- What serving has done, by the result of the task.
abbrev pub HasServed : Result (Unit {0}) TaskFault → Session → Session → Type 0
HasServed (Ok done) old new = ServesWhole false old new
HasServed (Err faults.Faulted) old new = ServesWhole true old new
HasServed (Err (faults.Serve fault)) old new = Serves old new (Err fault)
HasServed (Err fault) old new = ⊥

-- An office served the input, and the task has this result.
abbrev pub ServedBy : Streams → Streams → (OnDisk Office → OnDisk Office → Type 0) → Result (Unit {0}) TaskFault → Type 0
ServedBy old new Spans result = ByOffice old new Spans (HasServed result)

-- A run makes at most `limit` reads of its input, which its film shows. It ends with `turns` only after all of them.
abbrev pub RunsWithin : Result (Unit {0}) TaskFault → ReadsOf
RunsWithin (Err (faults.Open fault)) film left left' limit = Unit {0}
RunsWithin (Err (faults.Serve fault)) film left left' limit = IsReadWithin (Err fault) film left left' limit
RunsWithin result film left left' limit = EndsWithinReads film left left' limit

-- If it ends with `turns`, it has made `limit` reads, each of which took at least one byte.
abbrev pub UsesUpReads : Result (Unit {0}) TaskFault → ReadsOf
UsesUpReads (Err (faults.Serve serving.Turns)) film left left' limit = MakesAllReads film left left' limit
UsesUpReads result film left left' limit = Unit {0}

-- The streams of a world.
abbrev pub streams_of : (of : Known) → WorldOf of → List Frame → Streams
streams_of of world film = streams (of.readers.remaining world.input) (of.writers.contents world.output) film

-- A run on a disk, and its film: the office on the disk serves the lines of the input, and nothing else changes.
pub record Ran (of : Known) (canton : Canton) (before : WorldOf of × of.Disk) (after : WorldOf of × FilmedOf of)
    (result : Result (Unit {0}) TaskFault) : Type 0 where
  pub rest : after.0 ≡ record before.0 { input = after.0.input; output = after.0.output }
  pub served : WithOffice canton (of.disks.history before.1) (of.disks.history after.1.disk)
      ((after.0.input ≡ before.0.input) × (after.0.output ≡ before.0.output) × (scenes after.1.film ≡ []))
      (ServedBy (streams_of of before.0 []) (streams_of of after.0 (frames of.readers of.writers of.disks after.1.film))) result
  pub reads : RunsWithin result (frames of.readers of.writers of.disks after.1.film)
      (of.readers.remaining before.0.input) (of.readers.remaining after.0.input) (2 ^ 32)
  pub disk : LeavesDisk (of.disks.history before.1) (of.disks.history after.1.disk) result
