-- A rehearsal.
use Rattle.std.specs.Prelude.{◌≡◌, ◌^◌, ℕ, false, List, Some, Result, Err, IsTrue, codes, ◌++◌, ◌∷◌, []}
use Rattle.zh_setups.specs.Rehearsal.{rehearsal}
use Rattle.zh_returns.specs.Tally.{empty}
use Rattle.zh_office.specs.DeskBatches.{no_batches}
use Rattle.zh_disk.specs.Disk.{IsImage}
use Rattle.zh_disk.specs.Memory.{memory_history, memory_trail}
use Rattle.zh_disk.specs.declared.disk.Disk.{Ghosts as Disks}
use Rattle.zh_disk.specs.declared.memory.MemoryDisk.{MemoryDisk}
use Rattle.zh_film.specs.Frames.{Frame, frames}
use Rattle.zh_film.specs.Scenes.{scenes}
use Rattle.zh_film.specs.declared.film.Film.{Film}
use Rattle.zh_ledger.specs.Submissions.{OnDisk}
use Rattle.zh_office.specs.Office.{Office}
use Rattle.zh_program.specs.World.{EndOf, Known, WorldOf}
use Rattle.zh_program.specs.Remarks.{BecameOf}
use Rattle.zh_program.specs.Run.{ServedBy, Streams, UsesUpReads, streams_of}
use Rattle.zh_program.specs.declared.on_disk.Used.TheVariants.{Rehearsal}
use Rattle.zh_program.specs.declared.fault.TaskFault.{TaskFault}
use Rattle.zh_program.specs.declared.fault.TaskFault.TheVariants as faults

-- The line that says that a rehearsal keeps nothing, with its LF, which is 10.
abbrev pub announcement : List ℕ
announcement = codes "zhcount: rehearsal, nothing is kept" ++ 10 ∷ []

-- The office of a rehearsal: at the start its count is empty, and its disk is honest to the end.
pub record IsRehearsal (start end : OnDisk Office) : Type 0 where
  pub count : start.holder.ledger.tally ≡ empty rehearsal
  pub held : start.holder.held ≡ no_batches
  pub whole : start.holder.ledger.store.broken ≡ false
  pub honest : IsTrue end.history.honest

-- A rehearsal was served; or memory was refused for its set-up, its disk or its office, and nothing was served. Its disk is new
-- and in memory: it is not in use or damaged, it has no other set-up, and it fails only if memory is refused.
abbrev pub Rehearsed : Type 0 → Streams → Streams → Result (Unit {0}) TaskFault → Type 0
Rehearsed nothing old new (Err faults.Memory) = nothing
Rehearsed nothing old new result = ServedBy old new IsRehearsal result

-- What is known of a disk in memory.
abbrev pub in_memory : Disks MemoryDisk
in_memory = record { history = memory_history; leaves = λ d. IsImage (memory_trail d).now }

-- What the film of a rehearsal shows, latest first.
abbrev pub rehearsal_shown : (of : Known) → Film of.Input of.Output MemoryDisk → List Frame
rehearsal_shown of film = frames of.readers of.writers in_memory film

-- A rehearsal: it is announced first, its disk is in memory, its film is handed over, and no file is touched.
pub record Rehearses (of : Known) (old new : WorldOf of)
    (ended : EndOf of) : Type 0 where
  pub film : Film of.Input of.Output MemoryDisk
  pub used : ended.used ≡ Some (Rehearsal film)
  pub rest : new ≡ record old { input = new.input; output = new.output; faults = new.faults; remark = new.remark }
  pub said : BecameOf new.remark (of.errors.contents old.faults) (of.errors.contents new.faults) announcement
  pub served : Rehearsed ((new.input ≡ old.input) × (new.output ≡ old.output) × (scenes film ≡ []))
      (streams_of of old []) (streams_of of new (rehearsal_shown of film)) ended.result
  pub reads : UsesUpReads ended.result (rehearsal_shown of film) (of.readers.remaining old.input) (of.readers.remaining new.input) (2 ^ 32)
