-- The promise of the program, whatever its status, of each disk that it hands over, and of each rehearsal.
use Rattle.std.specs.Prelude.{◌≡◌, ℕ, List, [], codes, Some, IsSomeAnd, IsTrue}
use Rattle.zh_disk.specs.Disk.{Trail, fresh_trail}
use Rattle.zh_districts.specs.Canton.{IsCanton}
use Rattle.zh_film.specs.declared.film.Film.{Film}
use Rattle.zh_disk.specs.declared.memory.MemoryDisk.{MemoryDisk}
use Rattle.zh_returns.specs.Tally.{Tally}
use Rattle.zh_ledger.specs.Stands.{Holds, HoldsFramed}
use Rattle.zh_arguments.specs.Arguments.{AsksOnDisk, command_in}
use Rattle.zh_arguments.specs.Table.{path_in}
use Rattle.zh_arguments.specs.declared.arguments.Paths.{Paths}
use Rattle.zh_arguments.specs.declared.arguments.Task.{Task}
use Rattle.zh_arguments.specs.declared.arguments.Task.TheVariants.{Format}
use Rattle.zh_program.specs.Rehearse.{rehearsal_shown}
use Rattle.zh_program.specs.World.{FilmedOf, Known, WorldOf}
use Rattle.zh_program.specs.Due.{AnswerLines, AreOfTask, conversation, talk_of}
use Rattle.zh_office.specs.Exchanges.{Exchange}
use Rattle.zh_program.specs.Headline.{Headline}
use Rattle.zh_program.specs.Order.{AnswersBeforeReading, Throughout}
use Rattle.zh_program.specs.Stopped.{MakesEmpty}

-- What the program has done when it returns and hands over this disk and the film of its task. A run that is stopped has done a
-- prefix of it.
pub record Promise (of : Known) (arguments : List (List ℕ)) (old new : WorldOf of) (status : ℕ)
    (used : FilmedOf of) : Type 0 where
  pub task : Task
  pub path : List ℕ
  -- This path is given after `--disk`. The clauses `done` and `fault` say which view or which seats were asked for, and that
  -- nothing was refused.
  pub asked : IsSomeAnd (command_in arguments) (λ given. AsksOnDisk given task × (path ≡ path_in (codes "disk") given.1))
  pub exchanges : List Exchange
  pub opened : Trail
  pub due : AreOfTask (of.files.text_at old.files) task (talk_of of task old new opened used) status exchanges
  -- The input is read only after all complete lines that were read before are answered.
  pub awaited : Throughout (AnswersBeforeReading exchanges) (talk_of of task old new opened used)
  -- If the disk was honest, and the bytes of its file are known and hold a count (a clean image of one within the limits), the
  -- headline applies.
  pub on_a_count : IsTrue (of.disks.history used.disk).honest → (bytes : List ℕ) → of.files.disk_at old.files path ≡ Some bytes
      → (tally : Tally) → IsCanton tally.canton → Holds tally bytes
      → Headline tally (fresh_trail bytes) (talk_of of task old new opened used) exchanges
  -- If the disk was honest and the bytes hold no such count, clean or not, there is no answer. This says nothing about a count
  -- in an image that is not clean.
  pub idle : IsTrue (of.disks.history used.disk).honest → (bytes : List ℕ) → of.files.disk_at old.files path ≡ Some bytes
      → ((tally : Tally) → IsCanton tally.canton → ¬ HoldsFramed tally bytes) → exchanges ≡ []
  pub formatted : (paths : Paths) → task ≡ Format paths → IsTrue (of.disks.history used.disk).honest
      → (bytes : List ℕ) → of.files.disk_at old.files path ≡ Some bytes → MakesEmpty bytes status (of.disks.history used.disk).trail

-- What a rehearsal has read and answered when it hands over this film. Its disk was in memory.
pub record RehearsalPromise (of : Known) (old new : WorldOf of) (status : ℕ) (film : Film of.Input of.Output MemoryDisk) : Type 0 where
  pub exchanges : List Exchange
  pub opened : Trail
  pub last : Trail
  pub due : AnswerLines (conversation of old new opened last (rehearsal_shown of film)) status exchanges
  pub awaited : Throughout (AnswersBeforeReading exchanges) (conversation of old new opened last (rehearsal_shown of film))
