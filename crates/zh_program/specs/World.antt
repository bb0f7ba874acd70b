-- What is known of a world, and of the files in it.
use Rattle.std.specs.Prelude.{◌≡◌, ◌+◌, ℕ, List, take, Option, Some, None, Result, Ok}
use Rattle.std.specs.declared.io.traits.Read.{Ghosts as Readers}
use Rattle.std.specs.declared.io.traits.Write.{Ghosts as Writers}
use Rattle.zh_disk.specs.History.{History}
use Rattle.zh_disk.specs.declared.disk.Disk.{Ghosts as Disks}
use Rattle.zh_districts.specs.Canton.{Canton, IsCanton}
use Rattle.zh_setups.specs.SetupText.{reading_of}
use Rattle.zh_file.specs.Failures.{ForgetsNone, IsMet}
use Rattle.zh_file.specs.Files.{Begins, BeginsOrIsMade, IsAsFound, IsFilling, LeavesNoMore}
use Rattle.zh_file.specs.Causes.{IsFaultIn}
use Rattle.zh_file.specs.Places.{Touches}
use Rattle.zh_file.specs.declared.fault.FileFault.{FileFault}
use Rattle.zh_file.specs.declared.world.Ended.{Ended}
use Rattle.zh_file.specs.declared.world.World.{World}
use Rattle.zh_program.specs.declared.fault.TaskFault.{TaskFault}
use Rattle.zh_program.specs.declared.on_disk.Work.{Work}
use Rattle.zh_program.specs.declared.on_disk.Work.TheVariants.{Format}
use Rattle.zh_program.specs.declared.on_disk.Filmed.{Filmed}
use Rattle.zh_program.specs.declared.on_disk.Used.{Used}
use Rattle.zh_file.specs.declared.files.Files.{Ghosts as Files}

-- What is known of a task's world: the types of its parts, and what is known of each.
pub record Known : Type 1 where
  pub Input : Type 0
  pub Output : Type 0
  pub Errors : Type 0
  pub Folder : Type 0
  pub Text : Type 0
  pub Disk : Type 0
  pub Right : Type 0
  pub readers : Readers Input
  pub writers : Writers Output
  pub errors : Writers Errors
  pub files : Files Folder Text Disk Right
  pub disks : Disks Disk

module _ {I O E F T D R : Type 0} where
  abbrev pub known : Readers I → Writers O → Writers E → Files F T D R → Disks D → Known
  known readers writers errors files disks = record {
    Input = I;
    Output = O;
    Errors = E;
    Folder = F;
    Text = T;
    Disk = D;
    Right = R;
    readers = readers;
    writers = writers;
    errors = errors;
    files = files;
    disks = disks;
  }

-- A world of these parts.
abbrev pub WorldOf : Known → Type 0
WorldOf of = World of.Input of.Output of.Errors of.Folder

-- A disk that a task used with what is noted of the task; and what a task hands over.
abbrev pub FilmedOf : Known → Type 0
FilmedOf of = Filmed of.Input of.Output of.Disk of.Text

abbrev pub UsedOf : Known → Type 0
UsedOf of = Used of.Input of.Output of.Disk of.Text

-- The result of a task, and what it hands over.
abbrev pub EndOf : Known → Type 0
EndOf of = Ended (Result (Unit {0}) TaskFault) (UsedOf of)

-- How a disk with these bytes begins when it is opened. For a formatting, a missing file is created.
abbrev pub BeginsAt : Work → Option (List ℕ) → History → Type 0
BeginsAt Format = BeginsOrIsMade
BeginsAt work = Begins

-- What a stop may leave of the file at the path of a disk, if no disk was opened.
abbrev pub LeftAt : Work → List ℕ → List ℕ → Type 0
LeftAt Format = IsFilling
LeftAt work = IsAsFound

module _ {F T D R : Type 0} where
  -- This many calls were made of the files. What is known of the files stays the same, and nothing at any path was touched.
  pub record AreCalls (files : Files F T D R) (count : ℕ) (old new : F) : Type 0 where
    pub counted : files.calls new ≡ files.calls old + count
    pub texts : files.text_at new ≡ files.text_at old
    pub disks : files.disk_at new ≡ files.disk_at old
    pub stays : files.places new ≡ files.places old
    pub leaves : LeavesNoMore (files.left old) (files.left new)
    pub goes : ForgetsNone (files.failed old) (files.failed new)

  -- The last call met this fault. The fault is right about what was at this path before, and it comes from a failed system call
  -- at this path.
  abbrev pub IsMetAt : Files F T D R → List ℕ → F → F → FileFault → Type 0
  IsMetAt files path old new fault = (files.fault new ≡ Some fault) × IsFaultIn (files.places old) path fault
      × IsMet path fault (files.failed old) (files.failed new)

  -- A text was read, and then the disk at this path was opened or asked for.
  pub record AsksForDisk (files : Files F T D R) (path : List ℕ) (old new : F) : Type 0 where
    pub counted : files.calls new ≡ files.calls old + 2
    pub texts : files.text_at new ≡ files.text_at old
    pub disks : files.disk_at new ≡ files.disk_at old
    pub touches : Touches (Some path) (files.places old) (files.places new)

-- These are the first 1,048,577 bytes of a text, if its bytes are known.
abbrev pub IsFrontAt : Option (List ℕ) → List ℕ → Type 0
IsFrontAt None front = Unit {0}
IsFrontAt (Some text) front = front ≡ take 1048577 text

-- This set-up is within its limits and is what the text reads as, if its bytes are known.
abbrev pub IsSetupAt : Option (List ℕ) → Canton → Type 0
IsSetupAt None canton = IsCanton canton
IsSetupAt (Some text) canton = IsCanton canton × (reading_of text ≡ Ok canton)
