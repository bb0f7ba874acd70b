-- The program's commands: what each accepts, which task it asks for, and how it can be misused.
use Rattle.std.specs.Prelude.{◌≡◌, true, false, List, [], ◌∷◌, ◌++◌, Option, Some, None, IfSome}
use Rattle.std.specs.Prelude.{codes, find, fold, if◌then◌else◌, is_none, map, option_map}
use Rattle.std.specs.Str.{bytes_eq}
use Rattle.clap.specs.Words.{App, Row, Rule, Text, first_of, with_subcommand}
use Rattle.zh_arguments.specs.declared.arguments.Paths.{Paths}
use Rattle.zh_arguments.specs.declared.arguments.Task.{Task}
use Rattle.zh_arguments.specs.declared.arguments.Task.TheVariants as tasks
use Rattle.zh_arguments.specs.declared.check.CheckPaths.{CheckPaths}
use Rattle.zh_arguments.specs.declared.commands.CommandName.{CommandName}
use Rattle.zh_arguments.specs.declared.commands.CommandName.TheVariants as names
use Rattle.zh_arguments.specs.declared.commands.Query.TheVariants as queries
use Rattle.zh_arguments.specs.declared.arguments.Misuse.{Misuse}
use Rattle.zh_arguments.specs.declared.arguments.Misuse.TheVariants as misuses
use Rattle.zh_arguments.specs.declared.seats.Source.TheVariants.{Disk, Sheet}
use Rattle.zh_arguments.specs.Rules.{argument_rule, bare, command_taking, flag_rule, option_rule}
use Rattle.zh_arguments.specs.Seats.{layout_in, source_in}
use Rattle.zh_arguments.specs.Table.{path_in, table_in}
use Rattle.zh_arguments.specs.View.{has_flag, view_in}
use Rattle.zh_arguments.specs.Votes.{votes_asked}

-- all commands, in the order of the help
abbrev pub commands : List CommandName
commands =
    names.Format ∷ names.Run ∷ names.Load ∷ names.Export ∷ names.List ∷ names.Status ∷ names.Votes ∷ names.Check ∷ names.Seats ∷ []

-- the name of each command, as it is typed
abbrev pub word_of : CommandName → Text
word_of names.Format = codes "format"
word_of names.Run = codes "run"
word_of names.Load = codes "load"
word_of names.Export = codes "export"
word_of names.List = codes "list"
word_of names.Status = codes "status"
word_of names.Votes = codes "votes"
word_of names.Check = codes "check"
word_of names.Seats = codes "seats"

-- a set-up and a disk
abbrev pub disk_rules : List Rule
disk_rules = argument_rule (codes "setup") ∷ argument_rule (codes "disk") ∷ []

-- a set-up; a disk, the flag `--final` and a sheet, each of which can be left out
abbrev pub source_rules : List Rule
source_rules =
    argument_rule (codes "setup") ∷ option_rule (codes "disk") ∷ flag_rule (codes "final") ∷ option_rule (codes "sheet") ∷ []

-- what each command accepts; which of its arguments exclude one another is checked where they are read
abbrev pub rules_of : CommandName → List Rule
rules_of names.Format = disk_rules
rules_of names.Run = disk_rules
rules_of names.Load = disk_rules ++ argument_rule (codes "csv") ∷ flag_rule (codes "dry-run") ∷ []
rules_of names.Export = disk_rules
rules_of names.List =
    argument_rule (codes "setup") ∷ argument_rule (codes "of") ∷ map option_rule (codes "municipality" ∷ codes "constituency" ∷ [])
rules_of names.Status = disk_rules ++ map flag_rule (codes "constituencies" ∷ codes "missing" ∷ codes "implausible" ∷ [])
rules_of names.Votes = disk_rules ++ option_rule (codes "of") ∷ flag_rule (codes "table") ∷ []
rules_of names.Check = argument_rule (codes "setup") ∷ argument_rule (codes "sheet") ∷ option_rule (codes "held") ∷ []
rules_of names.Seats = source_rules ++ option_rule (codes "of") ∷ flag_rule (codes "table") ∷ []

-- the files of a task on a disk
abbrev pub paths_of : Task → Option Paths
paths_of (tasks.Format paths) = Some paths
paths_of (tasks.Run paths) = Some paths
paths_of (tasks.Load paths csv) = Some paths
paths_of (tasks.DryRun paths csv) = Some paths
paths_of (tasks.Show paths query) = Some paths
paths_of task = None

-- these are the given paths of a set-up and a disk
abbrev pub ArePaths : List Row → Paths → Type 0
ArePaths rows paths = (paths.setup.now ≡ path_in (codes "setup") rows) × (paths.disk.now ≡ path_in (codes "disk") rows)

-- these are the given paths of a check; that of the export can be left out
pub record AreCheckPaths (rows : List Row) (paths : CheckPaths) : Type 0 where
  pub setup : paths.setup.now ≡ path_in (codes "setup") rows
  pub sheet : paths.sheet.now ≡ path_in (codes "sheet") rows
  pub held : option_map (λ path. path.now) paths.held ≡ first_of (codes "held") rows

-- the task of each command; the paths of a task on a disk are left to `AsksWith`
abbrev pub IsTaskOf : CommandName → List Row → Task → Type 0
IsTaskOf names.Format rows (tasks.Format paths) = Unit {0}
IsTaskOf names.Run rows (tasks.Run paths) = Unit {0}
IsTaskOf names.Load rows (tasks.Load paths csv) = (has_flag (codes "dry-run") rows ≡ false) × (csv.now ≡ path_in (codes "csv") rows)
IsTaskOf names.Load rows (tasks.DryRun paths csv) = (has_flag (codes "dry-run") rows ≡ true) × (csv.now ≡ path_in (codes "csv") rows)
IsTaskOf names.Export rows (tasks.Show paths queries.Export) = Unit {0}
IsTaskOf names.List rows (tasks.List setup table) = (setup.now ≡ path_in (codes "setup") rows) × (table_in rows ≡ Some table)
IsTaskOf names.Status rows (tasks.Show paths (queries.Status view)) = view_in rows ≡ Some view
IsTaskOf names.Votes rows (tasks.Show paths (queries.Votes of is_table)) =
    (votes_asked rows ≡ Some of) × (has_flag (codes "table") rows ≡ is_table)
IsTaskOf names.Check rows (tasks.Check paths) = AreCheckPaths rows paths
IsTaskOf names.Seats rows (tasks.Show paths (queries.Seats is_final layout)) =
    (source_in rows ≡ Some (Disk is_final)) × (layout_in rows ≡ Some layout)
IsTaskOf names.Seats rows (tasks.SheetSeats setup sheet layout) =
    (source_in rows ≡ Some Sheet) × (setup.now ≡ path_in (codes "setup") rows)
    × (sheet.now ≡ path_in (codes "sheet") rows) × (layout_in rows ≡ Some layout)
IsTaskOf name rows task = ⊥

-- the task that each command asks for, with its paths
abbrev pub AsksWith : CommandName → List Row → Task → Type 0
AsksWith name rows task = IsTaskOf name rows task × IfSome (paths_of task) (ArePaths rows)

-- how a command can be misused though clap accepts it: a value that does not name a table, its part, rows of votes or records of seats;
-- flags that exclude one another; not exactly one source of seats, or `--final` with a sheet
abbrev pub misuse_of : CommandName → List Row → Option Misuse
misuse_of names.List rows = if is_none (table_in rows) then Some misuses.Table else None
misuse_of names.Status rows = if is_none (view_in rows) then Some misuses.Flags else None
misuse_of names.Votes rows = if is_none (votes_asked rows) then Some misuses.Votes else None
misuse_of names.Seats rows =
    if is_none (source_in rows) then Some misuses.Source else (if is_none (layout_in rows) then Some misuses.Layout else None)
misuse_of name rows = None

-- the command with this name, if there is one
abbrev pub command_named : Text → Option CommandName
command_named text = find (λ name. bytes_eq text (word_of name)) commands

-- a command with everything that it accepts
abbrev pub app_for : CommandName → App
app_for name = command_taking (word_of name) (rules_of name)

-- the program with one more command
abbrev pub with_command : App → CommandName → App
with_command program name = with_subcommand program (app_for name).top

-- the arguments that the program accepts: one command or none
abbrev pub zhcount : App
zhcount = fold with_command bare commands
