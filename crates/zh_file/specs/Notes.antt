-- The notes of a folder: the calls that failed and the files that were unlocked.
use Rattle.std.specs.Prelude.{List, [], ◌∷◌}
use Rattle.sqlite_disk.specs.declared.Disk.{Ghosts}
use Rattle.zh_file.specs.Failures.{FailedCall, failed_call}
use Rattle.zh_film.specs.Past.{items}
use Rattle.zh_file.specs.Locked.{noted_all, setbacks_of}
use Rattle.zh_file.specs.declared.notes.Note.{Note}
use Rattle.zh_file.specs.declared.notes.Note.TheVariants.{Failed, Unlocked}
use Rattle.zh_file.specs.declared.stored.locked.Locked.{Locked}

-- the failed calls among the notes
abbrev pub failed_among : {D : Type 0} → Ghosts D → List (Note D) → List FailedCall
failed_among g [] = []
failed_among g (Failed failure ∷ notes) = failed_call failure ∷ failed_among g notes
failed_among g (Unlocked path locked ∷ notes) = noted_all (items path) (setbacks_of g locked) (failed_among g notes)

-- the files that were unlocked, as they were then
abbrev pub unlocked_among : {D : Type 0} → List (Note D) → List (Locked D)
unlocked_among [] = []
unlocked_among (Failed failure ∷ notes) = unlocked_among notes
unlocked_among (Unlocked path locked ∷ notes) = locked ∷ unlocked_among notes
