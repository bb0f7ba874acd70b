-- The files that a task touches.
use Rattle.std.proofs.Common.{◌≡◌, ◌∙◌, ℕ, List, [], Option, Some, None, Result, ap, subst, sym, inl, inr, ⊎_elim, arith}
use Rattle.std.specs.Prelude.{◌⊎◌, IfSome, MatchOption}
use Rattle.zh_arguments.specs.declared.arguments.Paths.{Paths}
use Rattle.zh_arguments.specs.declared.arguments.Task.{Task}
use Rattle.zh_arguments.specs.declared.arguments.Task.TheVariants.{Rehearse, Format, Run, Load, Check}
use Rattle.zh_arguments.specs.declared.arguments.Task.TheVariants as tasks
use Rattle.zh_districts.specs.Canton.{Canton}
use Rattle.zh_file.specs.Files.{IsFilling, LeavesNoMore, LeavesOf}
use Rattle.zh_file.specs.Places.{Places, Touches, TouchesOnly}
use Rattle.zh_file.proofs.CallerLemmas.{before_stay}
use Rattle.zh_program.specs.OnDisk.{DoesOn, UsesDisk}
use Rattle.zh_program.specs.Tasks.{Does}
use Rattle.zh_program.specs.Texts.{UsesTexts}
use Rattle.zh_program.specs.World.{EndOf, FilmedOf, Known, LeftAt, UsedOf, WorldOf}
use Rattle.zh_program.specs.declared.fault.TaskFault.{TaskFault}
use Rattle.zh_program.specs.declared.on_disk.Work.{Work}
use Rattle.zh_program.specs.declared.on_disk.Work.TheVariants as works
use Rattle.zh_ledger.specs.Stands.{Holds}
use Rattle.zh_returns.specs.Tally.{Tally}
use Rattle.zh_program.specs.Program.{IsLeftBy, LeavesAsFound, disk_path}

module _ (of : Known) where
  same_files : (old new : WorldOf of) → new.files ≡ old.files → of.files.places new.files ≡ of.files.places old.files
  same_files old new same = ap of.files.places same

  -- Work on an open disk touches no place.
  work_stays : (work : Work) (canton : Canton) (before : WorldOf of × of.Disk) (after : WorldOf of × FilmedOf of) (result : Result (Unit {0}) TaskFault)
      → DoesOn of work canton before after result → of.files.places after.0.files ≡ of.files.places before.0.files
  work_stays works.Format canton before after result does = same_files before.0 after.0 (ap (λ (w : WorldOf of). w.files) does.rest)
  work_stays works.Run canton before after result does = same_files before.0 after.0 (ap (λ (w : WorldOf of). w.files) does.rest)
  work_stays (works.Load csv) canton before after result does = does.stays
  work_stays (works.DryRun csv) canton before after result does = does.stays
  work_stays (works.Show query) canton before after result does = does.stays

  uses_touch : (work : Work) (paths : Paths) (old new : WorldOf of) (ended : EndOf of) → UsesDisk of work paths old new ended
      → Touches (Some paths.disk.now) (of.files.places old.files) (of.files.places new.files)
  uses_touch work paths old new ended by = ⊎_elim
      (λ early. early.touches)
      (λ uses. before_stay (TouchesOnly paths.disk.now) (of.files.places old.files) (of.files.places uses.files) (of.files.places new.files)
      (work_stays work uses.canton (record old { files = uses.files }, uses.first) (new, uses.last) ended.result uses.does) uses.asked.touches)
      by

  -- A task that hands over no disk ended before it had one.
  uses_leave : (work : Work) (paths : Paths) (old new : WorldOf of) (ended : EndOf of) → ended.used ≡ None → UsesDisk of work paths old new ended
      → LeavesOf (LeftAt work) (of.files.disk_at old.files paths.disk.now) (of.files.left old.files) (of.files.left new.files)
  uses_leave work paths old new ended none by = ⊎_elim
      (λ early. early.leaves)
      (λ uses. handed_over _ (sym none ∙ uses.used))
      by
    where
      handed_over : (it : UsedOf of) → None ≡ Some it
          → LeavesOf (LeftAt work) (of.files.disk_at old.files paths.disk.now) (of.files.left old.files) (of.files.left new.files)
      handed_over it wrong = absurd cc

  same_leaves : (old new : WorldOf of) → new.files ≡ old.files → LeavesNoMore (of.files.left old.files) (of.files.left new.files)
  same_leaves old new same = λ c here. subst (λ (f : of.Folder). of.files.left f c) same here

  texts_leave : {X : Type 0} (Reads : of.Folder → of.Folder → Result X TaskFault → Type 0) (DoesWith : X → WorldOf of → WorldOf of → Result (Unit {0}) TaskFault → Type 0)
      (old new : WorldOf of) (result : Result (Unit {0}) TaskFault) → UsesTexts of Reads DoesWith old new result → LeavesNoMore (of.files.left old.files) (of.files.left new.files)
  texts_leave Reads DoesWith old new result by = λ c here. by.calls.2.leaves c (subst (λ (f : of.Folder). of.files.left f c) by.rest here)

  does_leave : (task : Task) (old new : WorldOf of) (ended : EndOf of) → Does of task old new ended → ended.used ≡ None
      → LeavesAsFound task (of.files.disk_at old.files) (of.files.left old.files) (of.files.left new.files)
  does_leave Rehearse old new ended by none = same_leaves old new (ap (λ (w : WorldOf of). w.files) by.rest)
  does_leave (Format paths) old new ended by none = uses_leave works.Format paths old new ended none by
  does_leave (Run paths) old new ended by none = uses_leave works.Run paths old new ended none by
  does_leave (Load paths csv) old new ended by none = uses_leave (works.Load csv) paths old new ended none by
  does_leave (tasks.DryRun paths csv) old new ended by none = uses_leave (works.DryRun csv) paths old new ended none by
  does_leave (tasks.Show paths query) old new ended by none = uses_leave (works.Show query) paths old new ended none by
  does_leave (tasks.List setup table) old new ended by none = texts_leave _ _ old new ended.result by.1
  does_leave (Check paths) old new ended by none = texts_leave _ _ old new ended.result by.1
  does_leave (tasks.SheetSeats setup sheet layout) old new ended by none = texts_leave _ _ old new ended.result by.1
  does_leave tasks.Version old new ended by none = same_leaves old new (ap (λ (w : WorldOf of). w.files) by.1)

  -- The report after it leaves nothing more.
  pub left_after : (task : Task) (old after new : WorldOf of) (ended : EndOf of) → Does of task old after ended
      → new ≡ record after { faults = new.faults; remark = new.remark } → ended.used ≡ None
      → LeavesAsFound task (of.files.disk_at old.files) (of.files.left old.files) (of.files.left new.files)
  left_after task old after new ended does rest none = after_same (disk_path task) (does_leave task old after ended does none)
    where
      still : (c : List ℕ) → of.files.left new.files c → of.files.left after.files c
      still c here = subst (λ (f : of.Folder). of.files.left f c) (ap (λ (w : WorldOf of). w.files) rest) here

      after_same : (path : Option (List ℕ))
          → MatchOption path (LeavesNoMore (of.files.left old.files) (of.files.left after.files))
          (λ p. LeavesOf (IsLeftBy task) (of.files.disk_at old.files p) (of.files.left old.files) (of.files.left after.files))
          → MatchOption path (LeavesNoMore (of.files.left old.files) (of.files.left new.files))
          (λ p. LeavesOf (IsLeftBy task) (of.files.disk_at old.files p) (of.files.left old.files) (of.files.left new.files))
      after_same None by = λ c here. by c (still c here)
      after_same (Some path) by = λ c here. by c (still c here)

  texts_stay : {X : Type 0} (Reads : of.Folder → of.Folder → Result X TaskFault → Type 0) (DoesWith : X → WorldOf of → WorldOf of → Result (Unit {0}) TaskFault → Type 0)
      (old new : WorldOf of) (result : Result (Unit {0}) TaskFault) → UsesTexts of Reads DoesWith old new result → of.files.places new.files ≡ of.files.places old.files
  texts_stay Reads DoesWith old new result by = ap of.files.places by.rest ∙ by.calls.2.stays

  pub does_touch : (task : Task) (old new : WorldOf of) (ended : EndOf of) → Does of task old new ended
      → Touches (disk_path task) (of.files.places old.files) (of.files.places new.files)
  does_touch Rehearse old new ended by = same_files old new (ap (λ (w : WorldOf of). w.files) by.rest)
  does_touch (Format paths) old new ended by = uses_touch works.Format paths old new ended by
  does_touch (Run paths) old new ended by = uses_touch works.Run paths old new ended by
  does_touch (Load paths csv) old new ended by = uses_touch (works.Load csv) paths old new ended by
  does_touch (tasks.DryRun paths csv) old new ended by = uses_touch (works.DryRun csv) paths old new ended by
  does_touch (tasks.Show paths query) old new ended by = uses_touch (works.Show query) paths old new ended by
  does_touch (tasks.List setup table) old new ended by = texts_stay _ _ old new ended.result by.1
  does_touch (Check paths) old new ended by = texts_stay _ _ old new ended.result by.1
  does_touch (tasks.SheetSeats setup sheet layout) old new ended by = texts_stay _ _ old new ended.result by.1
  does_touch tasks.Version old new ended by = same_files old new (ap (λ (w : WorldOf of). w.files) by.1)

  -- The report after it touches nothing either.
  pub touched_after : (task : Task) (old after new : WorldOf of) (ended : EndOf of) → Does of task old after ended
      → new ≡ record after { faults = new.faults; remark = new.remark } → Touches (disk_path task) (of.files.places old.files) (of.files.places new.files)
  touched_after task old after new ended does rest =
      let same : of.files.places after.files ≡ of.files.places new.files = sym (ap of.files.places (ap (λ (w : WorldOf of). w.files) rest)) in
      subst (λ (known : Option Places). Touches (disk_path task) (of.files.places old.files) known) same (does_touch task old after ended does)

-- What is left is as it was found, or what a formatting may make of an empty file.
is_left : (task : Task) (found c : List ℕ) → IsLeftBy task found c → IsFilling found c
is_left (Format paths) found c by = by
is_left task found c by = inl by

none_holds : (tally : Tally) → Holds tally [] → ⊥
none_holds tally holds = let gate = holds.clean.framed.gate in absurd (omega (arith, gate))

-- What is left holds the count that was held.
pub still_held : (task : Task) (disk_at : List ℕ → Option (List ℕ)) (old new : List ℕ → Type 0) (tally : Tally) (path bytes c : List ℕ)
    → LeavesAsFound task disk_at old new → disk_path task ≡ Some path → disk_at path ≡ Some bytes → Holds tally bytes
    → new c → old c ⊎ Holds tally c
still_held task disk_at old new tally path bytes c leaves is known holds here =
    let at : LeavesOf (IsLeftBy task) (disk_at path) old new =
    subst (λ (p : Option (List ℕ)). MatchOption p (LeavesNoMore old new) (λ q. LeavesOf (IsLeftBy task) (disk_at q) old new)) is leaves in
    ⊎_elim
    (λ was. inl was)
    (λ found.
    let left : IsLeftBy task bytes c = subst (λ (k : Option (List ℕ)). IfSome k (λ b. IsLeftBy task b c)) known found in
    ⊎_elim
    (λ same. inr (subst (λ (b : List ℕ). Holds tally b) (sym same) holds))
    (λ empty. absurd (none_holds tally (subst (λ (b : List ℕ). Holds tally b) empty.0 holds)))
    (is_left task bytes c left))
    (at c here)
