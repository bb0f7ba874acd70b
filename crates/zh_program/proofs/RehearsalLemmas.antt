-- What a rehearsal has read and answered. Only a rehearsal hands over the film of a disk in memory.
use Rattle.std.proofs.Common.{◌≡◌, ◌∙◌, ℕ, [], map, Option, Some, None, Result, Err, refl, sym, ap, subst}
use Rattle.zh_disk.specs.Disk.{fresh_trail}
use Rattle.zh_disk.specs.declared.memory.MemoryDisk.{MemoryDisk}
use Rattle.zh_film.specs.Frames.{frame_of}
use Rattle.zh_film.specs.Scenes.{scenes}
use Rattle.zh_film.specs.declared.film.Film.{Film}
use Rattle.zh_arguments.specs.declared.arguments.Paths.{Paths}
use Rattle.zh_arguments.specs.declared.arguments.Task.{Task}
use Rattle.zh_arguments.specs.declared.arguments.Task.TheVariants as tasks
use Rattle.zh_program.specs.OnDisk.{UsesDisk}
use Rattle.zh_program.specs.Rehearse.{IsRehearsal, Rehearsed as HasRehearsed, Rehearses, in_memory, rehearsal_shown}
use Rattle.zh_program.specs.Run.{ServedBy, Streams, streams_of}
use Rattle.zh_program.specs.Tasks.{Does}
use Rattle.zh_program.specs.World.{FilmedOf, Known, UsedOf, WorldOf}
use Rattle.zh_program.specs.declared.fault.TaskFault.{TaskFault}
use Rattle.zh_program.specs.declared.fault.TaskFault.TheVariants as faults
use Rattle.zh_program.specs.declared.on_disk.Work.{Work}
use Rattle.zh_program.specs.declared.on_disk.Work.TheVariants as works
use Rattle.zh_program.specs.declared.on_disk.Used.TheVariants.{Disk, Rehearsal}
use Rattle.zh_program.specs.Program.{ends}
use Rattle.zh_program.specs.Promise.{RehearsalPromise}
use Rattle.zh_program.proofs.EndingLemmas.{TellsOfFault}
use Rattle.zh_program.proofs.OrderLemmas.{awaited_of}
use Rattle.zh_program.proofs.PartLemmas.{by_disk}
use Rattle.zh_program.proofs.ServedLemmas.{none_due, serve_done}
use Rattle.zh_program.proofs.TalkLemmas.{IsSilent, talking, told_none}

-- Either the rehearsal was served, or nothing was done.
by_case : {X : Type 0} (nothing : Type 0) (old new : Streams) (result : Result (Unit {0}) TaskFault) → HasRehearsed nothing old new result
    → ((fault : TaskFault) → result ≡ Err fault → nothing → X) → (ServedBy old new IsRehearsal result → X) → X
by_case nothing old new (Err faults.Memory) by none serves = none faults.Memory refl by
by_case nothing old new result by none serves = serves by

module _ (of : Known) where
  -- Nothing was read, written or noted on the film.
  abbrev IsUntouched : WorldOf of → WorldOf of → Film of.Input of.Output MemoryDisk → Type 0
  IsUntouched old after film = (after.input ≡ old.input) × (after.output ≡ old.output) × (scenes film ≡ [])

  rehearsed : (old after : WorldOf of) (film : Film of.Input of.Output MemoryDisk) (status : ℕ) (result : Result (Unit {0}) TaskFault)
      → TellsOfFault status result
      → HasRehearsed (IsUntouched old after film) (streams_of of old []) (streams_of of after (rehearsal_shown of film)) result
      → RehearsalPromise of old after status film
  rehearsed old after film status result failed by =
      let before = streams_of of old [] in
      let now = streams_of of after (rehearsal_shown of film) in
      by_case (IsUntouched old after film) before now result by
      (λ fault is same.
      let blank : now.film ≡ [] = ap (map (frame_of of.readers of.writers in_memory)) same.2 in
      let silent : IsSilent before now
      = record { left = ap of.readers.remaining same.0; written = ap of.writers.contents same.1; film = blank } in
      let at = fresh_trail [] in
      record {
        exchanges = [];
        opened = at;
        last = at;
        due = none_due before now status at (failed fault is) silent;
        awaited = awaited_of (talking before now at at) [] (told_none before now at silent);
      })
      (λ serves.
      let served = serve_done before now status IsRehearsal result failed serves in
      record {
        exchanges = served.exchanges;
        opened = served.start.history.trail;
        last = served.end.history.trail;
        due = served.due;
        awaited = awaited_of (talking before now served.start.history.trail served.end.history.trail) served.exchanges served.told;
      })

  -- Only a rehearsal hands over such a film.
  module _ (old after : WorldOf of) (status : ℕ) (result : Result (Unit {0}) TaskFault) (failed : TellsOfFault status result)
      (used : Option (UsedOf of)) (film : Film of.Input of.Output MemoryDisk) (handed : used ≡ Some (Rehearsal film)) where
    none_other : {X : Type 0} → used ≡ None → X
    none_other is = let wrong : Some (Rehearsal film) ≡ None = sym handed ∙ is in absurd cc

    none_filmed : {X : Type 0} (filmed : FilmedOf of) → used ≡ Some (Disk filmed) → X
    none_filmed filmed is = let wrong : Some (Rehearsal film) ≡ Some (Disk filmed) = sym handed ∙ is in absurd cc

    on_a_disk : {X : Type 0} (work : Work) (paths : Paths) → UsesDisk of work paths old after (ends result used) → X
    on_a_disk work paths by = by_disk of work paths old after (ends result used) by (λ none. none_other none) (λ uses. none_filmed uses.last uses.used)

    rehearsed_after : Rehearses of old after (ends result used) → RehearsalPromise of old after status film
    rehearsed_after by =
        let same : by.film ≡ film = (let one : Some (Rehearsal by.film) ≡ Some (Rehearsal film) = sym by.used ∙ handed in cc) in
        subst (RehearsalPromise of old after status) same (rehearsed old after by.film status result failed by.served)

    said : (task : Task) → Does of task old after (ends result used) → RehearsalPromise of old after status film
    said tasks.Rehearse by = rehearsed_after by
    said (tasks.List setup table) by = none_other by.0
    said (tasks.SheetSeats setup sheet layout) by = none_other by.0
    said (tasks.Check paths) by = none_other by.0
    said tasks.Version by = none_other by.0
    said (tasks.Run paths) by = on_a_disk works.Run paths by
    said (tasks.Load paths csv) by = on_a_disk (works.Load csv) paths by
    said (tasks.DryRun paths csv) by = on_a_disk (works.DryRun csv) paths by
    said (tasks.Show paths query) by = on_a_disk (works.Show query) paths by
    said (tasks.Format paths) by = on_a_disk works.Format paths by

    -- And after it only its fault was reported.
    pub rehearsed_of : (new : WorldOf of) → new ≡ record after { faults = new.faults; remark = new.remark }
        → (task : Task) → Does of task old after (ends result used)
        → RehearsalPromise of old new status film
    rehearsed_of new rest task by =
        let here = said task by in
        subst (λ (w : WorldOf of). RehearsalPromise of old w status film) (sym rest)
        (record { exchanges = here.exchanges; opened = here.opened; last = here.last; due = here.due; awaited = here.awaited })
