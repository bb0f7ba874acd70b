-- What each task does to a world.
use Rattle.std.specs.Prelude.{◌≡◌, None}
use Rattle.zh_arguments.specs.declared.arguments.Task.{Task}
use Rattle.zh_arguments.specs.declared.arguments.Task.TheVariants.{Rehearse, Format, Run, Load, Check}
use Rattle.zh_arguments.specs.declared.arguments.Task.TheVariants as tasks
use Rattle.zh_program.specs.Check.{Checked}
use Rattle.zh_program.specs.List.{Listed}
use Rattle.zh_program.specs.OnDisk.{UsesDisk}
use Rattle.zh_program.specs.Rehearse.{Rehearses}
use Rattle.zh_program.specs.SheetSeats.{HasShownSheet}
use Rattle.zh_program.specs.Version.{WritesVersion}
use Rattle.zh_program.specs.World.{EndOf, Known, WorldOf}
use Rattle.zh_program.specs.declared.on_disk.Work.TheVariants as works

-- What a task has done, by its end, from one world to another.
abbrev pub Does : (of : Known) → Task → WorldOf of → WorldOf of → EndOf of → Type 0
Does of Rehearse old new ended = Rehearses of old new ended
Does of (Format paths) old new ended = UsesDisk of works.Format paths old new ended
Does of (Run paths) old new ended = UsesDisk of works.Run paths old new ended
Does of (Load paths csv) old new ended = UsesDisk of (works.Load csv) paths old new ended
Does of (tasks.DryRun paths csv) old new ended = UsesDisk of (works.DryRun csv) paths old new ended
Does of (tasks.Show paths query) old new ended = UsesDisk of (works.Show query) paths old new ended
Does of (tasks.List setup table) old new ended = (ended.used ≡ None) × Listed of setup.now table old new ended.result
Does of (Check paths) old new ended = (ended.used ≡ None) × Checked of paths old new ended.result
Does of (tasks.SheetSeats setup sheet layout) old new ended =
    (ended.used ≡ None) × HasShownSheet of (record { setup = setup; sheet = sheet; layout = layout }) old new ended.result
Does of tasks.Version old new ended = (ended.used ≡ None) × (new ≡ record old { output = new.output })
    × WritesVersion (of.writers.contents old.output) (of.writers.contents new.output) ended.result
