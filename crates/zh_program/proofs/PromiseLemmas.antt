-- What the program has done when it hands over a disk, by its task. Only a task on a disk hands one over; the report at the end
-- changes nothing that the task has done with it.
use Rattle.std.proofs.Common.{◌≡◌, ℕ, List, Option, Some, None, Result, IsTrue, refl, sym, ◌∙◌, ap, subst, codes}
use Rattle.std.specs.Prelude.{IsSomeAnd, is_some, option_map}
use Rattle.zh_disk.specs.Disk.{fresh_trail}
use Rattle.zh_disk.specs.History.{History}
use Rattle.zh_disk.specs.declared.memory.MemoryDisk.{MemoryDisk}
use Rattle.zh_districts.specs.Canton.{Canton, IsCanton}
use Rattle.zh_film.specs.declared.film.Film.{Film}
use Rattle.zh_arguments.specs.Arguments.{AsksFor, AsksOnDisk, Names, command_in}
use Rattle.zh_arguments.specs.Commands.{ArePaths, paths_of}
use Rattle.zh_arguments.proofs.CallerLemmas.{asked_at, asked_by_command}
use Rattle.zh_arguments.specs.Table.{path_in}
use Rattle.clap.specs.Words.{Row, Text}
use Rattle.zh_arguments.specs.declared.arguments.Paths.{Paths}
use Rattle.zh_arguments.specs.declared.arguments.Task.{Task}
use Rattle.zh_arguments.specs.declared.arguments.Task.TheVariants as tasks
use Rattle.zh_arguments.specs.declared.arguments.Task.TheVariants.{Rehearse, Format, Run, Load}
use Rattle.zh_file.specs.Files.{Begins}
use Rattle.zh_file.specs.declared.world.Remark.{Remark}
use Rattle.zh_program.specs.DryRun.{HasDryRun}
use Rattle.zh_program.specs.OnDisk.{HasUsed, UsesDisk}
use Rattle.zh_program.specs.Query.{MayShow}
use Rattle.zh_program.specs.Shown.{Shows}
use Rattle.zh_program.specs.Tasks.{Does}
use Rattle.zh_program.specs.World.{BeginsAt, FilmedOf, Known, UsedOf, WorldOf}
use Rattle.zh_program.specs.declared.fault.TaskFault.{TaskFault}
use Rattle.zh_program.specs.declared.on_disk.Work.{Work}
use Rattle.zh_program.specs.declared.on_disk.Work.TheVariants as works
use Rattle.zh_program.specs.declared.on_disk.Used.TheVariants.{Disk, Rehearsal}
use Rattle.zh_program.specs.Due.{talk_of}
use Rattle.zh_program.specs.Program.{disk_path, ends}
use Rattle.zh_program.specs.Promise.{Promise}
use Rattle.zh_program.specs.Stopped.{MakesEmpty}
use Rattle.zh_program.proofs.BeginningLemmas.{held_made, known_fresh, known_made}
use Rattle.zh_program.proofs.EndingLemmas.{TellsOfFault}
use Rattle.zh_program.proofs.OrderLemmas.{awaited_of}
use Rattle.zh_program.proofs.PartLemmas.{AnswersNone, HasDone, by_disk, setup_limits}
use Rattle.zh_program.proofs.PartLemmas.{format_part, load_part, made_empty, read_part, run_part}

at_path : (rows : List Row) (paths : Paths) (path : List ℕ) → Some paths.disk.now ≡ Some path → ArePaths rows paths → path ≡ path_in (codes "disk") rows
at_path rows paths path on are = let is : paths.disk.now ≡ path = cc in sym is ∙ are.1

-- What a command asks for on a disk, and the path of the disk.
asked_on : (given : Option (Text × List Row)) (task : Task) (path : List ℕ) → disk_path task ≡ Some path
    → Names given task
    → IsSomeAnd given (λ command. AsksOnDisk command task × (path ≡ path_in (codes "disk") command.1))
asked_on None task path on asks = let wrong : disk_path Rehearse ≡ Some path = ap disk_path (sym asks) ∙ on in absurd cc
asked_on (Some given) task path on asks = at (paths_of task) refl
  where
    at : (known : Option Paths) → paths_of task ≡ known → AsksOnDisk given task × (path ≡ path_in (codes "disk") given.1)
    at None is = let wrong : None ≡ Some path = sym (ap (option_map (λ (paths : Paths). paths.disk.now)) is) ∙ on in absurd cc
    at (Some paths) is =
        let disk : Some paths.disk.now ≡ Some path = sym (ap (option_map (λ (p : Paths). p.disk.now)) is) ∙ on in
        ((ap is_some is, asks), at_path given.1 paths path disk (asked_at given task paths is asks))

-- Such a task is not the version, which a flag asks for with any command.
by_command : (arguments : List (List ℕ)) (task : Task) (path : List ℕ) → disk_path task ≡ Some path → AsksFor arguments task
    → Names (command_in arguments) task
by_command arguments task path on = asked_by_command arguments task
    (λ is. let wrong : disk_path tasks.Version ≡ Some path = ap disk_path (sym is) ∙ on in absurd cc)

-- The task is not a formatting.
abbrev IsNoFormat : Task → Type 0
IsNoFormat task = (paths : Paths) → task ≡ Format paths → ⊥

module _ (of : Known) where
  -- The promise about the disk that was handed over and its film.
  module _ (arguments : List (List ℕ)) (old after : WorldOf of) (said : of.Errors) (remark : Remark)
      (status : ℕ) (result : Result (Unit {0}) TaskFault) (failed : TellsOfFault status result)
      (used : Option (UsedOf of)) (filmed : FilmedOf of) (handed : used ≡ Some (Disk filmed)) where
    abbrev new : WorldOf of
    new = record after { faults = said; remark = remark }

    same_disk : (last : FilmedOf of) → used ≡ Some (Disk last) → last ≡ filmed
    same_disk last is = let same : Some (Disk last) ≡ Some (Disk filmed) = sym is ∙ handed in cc

    none_early : {X : Type 0} → used ≡ None → X
    none_early is = let wrong : Some (Disk filmed) ≡ None = sym handed ∙ is in absurd cc

    none_rehearsed : {X : Type 0} → (film : Film of.Input of.Output MemoryDisk) → used ≡ Some (Rehearsal film) → X
    none_rehearsed film is = let wrong : Some (Disk filmed) ≡ Some (Rehearsal film) = sym handed ∙ is in absurd cc

    -- A report after a task changes nothing that the task has done.
    said_after : (task : Task) (canton : Canton) (first : History) → HasDone of task old after status canton first filmed
        → HasDone of task old new status canton first filmed
    said_after (Run paths) canton first by = record { exchanges = by.exchanges; opened = by.opened; due = by.due; told = by.told; kept = by.kept }
    said_after (Load paths csv) canton first by = record { exchanges = by.exchanges; opened = by.opened; due = by.due; told = by.told; kept = by.kept }
    said_after task canton first by = record { exchanges = by.exchanges; opened = by.opened; due = by.due; told = by.told; kept = by.kept }

    found : (task : Task) → AsksFor arguments task → (paths : Paths) → disk_path task ≡ Some paths.disk.now → IsNoFormat task
        → (canton : Canton) (first : of.Disk) → Begins (of.files.disk_at old.files paths.disk.now) (of.disks.history first)
        → HasDone of task old new status canton (of.disks.history first) filmed
        → Promise of arguments old new status filmed
    found task asked paths on other canton first begins by =
        let known = of.files.disk_at old.files paths.disk.now in
        let began = of.disks.history first in
        let fresh : (bytes : List ℕ) → known ≡ Some bytes → began.trail ≡ fresh_trail bytes
        = λ bytes is. known_fresh known began bytes begins is in
        record {
          task = task;
          asked = asked_on (command_in arguments) task paths.disk.now on (by_command arguments task paths.disk.now on asked);
          path = paths.disk.now;
          exchanges = by.exchanges;
          opened = by.opened;
          due = by.due;
          awaited = awaited_of (talk_of of task old new by.opened filmed) by.exchanges by.told;
          on_a_count = λ honest bytes is tally own holds. by.kept.on_a_count honest bytes (fresh bytes is) tally own holds;
          idle = λ honest bytes is none. by.kept.idle honest bytes (fresh bytes is) none;
          formatted = λ p is. absurd (other p is);
        }

    -- For a task on an existing disk.
    found_on : (task : Task) → AsksFor arguments task → (paths : Paths) → disk_path task ≡ Some paths.disk.now → IsNoFormat task
        → (work : Work) → ((known : Option (List ℕ)) (first : History) → BeginsAt work known first → Begins known first)
        → ((uses : HasUsed of work paths old after (ends result used)) → IsCanton uses.canton
        → HasDone of task old after status uses.canton (of.disks.history uses.first) uses.last)
        → UsesDisk of work paths old after (ends result used)
        → Promise of arguments old new status filmed
    found_on task asked paths on other work there part by =
        by_disk of work paths old after (ends result used) by
        (λ none. none_early none)
        (λ uses.
        let canton = uses.canton in
        let began = of.disks.history uses.first in
        let limits = setup_limits (of.files.text_at old.files paths.setup.now) canton uses.setup in
        let here = subst (HasDone of task old after status canton began) (same_disk uses.last uses.used) (part uses limits) in
        found task asked paths on other canton uses.first (there _ began uses.begins) (said_after task canton began here))

    -- For a formatting, whose disk may have been created.
    found_made : (paths : Paths) → AsksFor arguments (Format paths)
        → HasUsed of works.Format paths old after (ends result used)
        → Promise of arguments old new status filmed
    found_made paths asked uses =
        let canton = uses.canton in
        let known = of.files.disk_at old.files paths.disk.now in
        let began = of.disks.history uses.first in
        let limits = setup_limits (of.files.text_at old.files paths.setup.now) canton uses.setup in
        let this = same_disk uses.last uses.used in
        let part = format_part of old after uses.files uses.first uses.last canton limits status result failed paths uses.does in
        let here = subst (HasDone of (Format paths) old after status canton began) this part in
        let Empties : FilmedOf of → Type 0
        = λ d. IsTrue (of.disks.history d.disk).honest → (bytes : List ℕ) → known ≡ Some bytes → MakesEmpty bytes status (of.disks.history d.disk).trail in
        let made = made_empty of old after uses.files uses.first uses.last canton limits status result failed uses.does in
        let empties : Empties filmed = subst Empties this (made known uses.begins) in
        let honest_first : IsTrue (of.disks.history filmed.disk).honest → IsTrue began.honest
        = subst (λ (d : FilmedOf of). IsTrue (of.disks.history d.disk).honest → IsTrue began.honest) this uses.does.call.kept in
        record {
          task = Format paths;
          asked = asked_on (command_in arguments) (Format paths) paths.disk.now refl (by_command arguments (Format paths) paths.disk.now refl asked);
          path = paths.disk.now;
          exchanges = here.exchanges;
          opened = here.opened;
          due = here.due;
          awaited = awaited_of (talk_of of (Format paths) old new here.opened filmed) here.exchanges here.told;
          on_a_count = λ honest bytes is tally own holds.
              let fresh = held_made tally bytes began.trail holds (known_made known began bytes uses.begins (honest_first honest) is) in
              here.kept.on_a_count honest bytes fresh tally own holds;
          idle = λ honest bytes is none. here.due;
          formatted = λ p is honest bytes known_is. empties honest bytes known_is;
        }

    promise_said : (task : Task) → AsksFor arguments task → Does of task old after (ends result used) → Promise of arguments old new status filmed
    promise_said Rehearse asked by = none_rehearsed by.film by.used
    promise_said (tasks.List setup table) asked by = none_early by.0
    promise_said (tasks.SheetSeats setup sheet layout) asked by = none_early by.0
    promise_said (tasks.Check paths) asked by = none_early by.0
    promise_said tasks.Version asked by = none_early by.0
    promise_said (Run paths) asked by = found_on (Run paths) asked paths refl (λ p is. absurd cc) works.Run (λ known first begins. begins)
        (λ uses limits. run_part of old after uses.files uses.first uses.last uses.canton limits status result failed paths uses.does) by
    promise_said (Load paths csv) asked by = found_on (Load paths csv) asked paths refl (λ p is. absurd cc) (works.Load csv) (λ known first begins. begins)
        (λ uses limits.
        load_part of old after uses.files uses.first uses.last uses.canton limits status result failed paths csv uses.asked.texts uses.does) by
    promise_said (tasks.DryRun paths csv) asked by =
        let none : AnswersNone of (tasks.DryRun paths csv) = record { due = λ text_at talk status. refl; apart = λ old after opened used. refl } in
        found_on (tasks.DryRun paths csv) asked paths refl (λ p is. absurd cc) (works.DryRun csv) (λ known first begins. begins)
        (λ uses limits.
        read_part of old after uses.files uses.first uses.last uses.canton limits status result failed (tasks.DryRun paths csv) none
        (HasDryRun of csv.now) uses.does) by
    promise_said (tasks.Show paths query) asked by =
        let none : AnswersNone of (tasks.Show paths query) = record { due = λ text_at talk status. refl; apart = λ old after opened used. refl } in
        found_on (tasks.Show paths query) asked paths refl (λ p is. absurd cc) (works.Show query) (λ known first begins. begins)
        (λ uses limits.
        read_part of old after uses.files uses.first uses.last uses.canton limits status result failed (tasks.Show paths query) none
        (λ tally. Shows of (MayShow query tally)) uses.does) by
    promise_said (Format paths) asked by =
        by_disk of works.Format paths old after (ends result used) by
        (λ none. none_early none)
        (λ uses. found_made paths asked uses)

  -- The promise of a task after which only its fault was reported.
  pub promise_of : (arguments : List (List ℕ)) (old after new : WorldOf of) → new ≡ record after { faults = new.faults; remark = new.remark }
      → (status : ℕ) (result : Result (Unit {0}) TaskFault) → TellsOfFault status result
      → (used : Option (UsedOf of)) (filmed : FilmedOf of) → used ≡ Some (Disk filmed)
      → (task : Task) → AsksFor arguments task
      → Does of task old after (ends result used)
      → Promise of arguments old new status filmed
  promise_of arguments old after new rest status result failed used filmed handed task asked by =
      let said = promise_said arguments old after new.faults new.remark status result failed used filmed handed task asked by in
      subst (λ (w : WorldOf of). Promise of arguments old w status filmed) (sym rest) said
