-- The program's arguments, without its own name, and what they ask for.
use Rattle.std.specs.Prelude.{◌≡◌, Bool, true, false, List, [], ◌∷◌, Option, Some, None, IsSome, option_and_then, Result}
use Rattle.std.specs.Prelude.{MatchResult, codes}
use Rattle.std.specs.Option.{option_map_or}
use Rattle.clap.specs.Words.{Row, Text, matches_of, subcommand_of}
use Rattle.clap.specs.Kinds.{Kinds, HasKind, or_else}
use Rattle.clap.specs.declared.error.kind.ErrorKind.{ErrorKind}
use Rattle.clap.specs.declared.error.kind.ErrorKind.TheVariants as kinds
use Rattle.clap.specs.Faults.{fault_of}
use Rattle.clap.specs.declared.error.Error.{Error}
use Rattle.zh_arguments.specs.declared.arguments.Task.{Task}
use Rattle.zh_arguments.specs.declared.arguments.Task.TheVariants as tasks
use Rattle.zh_arguments.specs.declared.commands.CommandName.{CommandName}
use Rattle.zh_arguments.specs.declared.arguments.Misuse.{Misuse}
use Rattle.zh_arguments.specs.declared.arguments.Misuse.TheVariants as misuses
use Rattle.zh_arguments.specs.Commands.{AsksWith, command_named, misuse_of, paths_of, zhcount}
use Rattle.zh_arguments.specs.View.{has_flag}

-- the command that clap finds in these arguments, with its own arguments
unfoldable pub command_in : List Text → Option (Text × List Row)
command_in arguments = subcommand_of zhcount arguments

-- whether they ask for the version, by a flag that can come before a command
unfoldable pub wants_version : List Text → Bool
wants_version arguments = has_flag (codes "version") (matches_of zhcount arguments)

-- how these arguments of a command are misused, though clap accepts them
abbrev pub misuse_in : Option (Text × List Row) → Option Misuse
misuse_in given = option_and_then (λ command. option_and_then (λ name. misuse_of name command.1) (command_named command.0)) given

-- the kind of error for a misuse
abbrev pub kind_by : Misuse → ErrorKind
kind_by misuses.Table = kinds.InvalidValue
kind_by misuses.Flags = kinds.ArgumentConflict
kind_by misuses.Source = kinds.ArgumentConflict
kind_by misuses.Votes = kinds.InvalidValue
kind_by misuses.Layout = kinds.InvalidValue

-- the kinds of error with which these arguments can be refused, including a call for help; empty if they are accepted
unfoldable pub refusals : List Text → Kinds
refusals arguments =
    or_else (fault_of zhcount arguments) (option_map_or (λ misuse. kind_by misuse ∷ []) (misuse_in (command_in arguments)) [])

-- the task that a command asks for; without a command it is the rehearsal
abbrev pub AsksBy : Option CommandName → List Row → Task → Type 0
AsksBy None rows task = task ≡ tasks.Rehearse
AsksBy (Some name) rows task = AsksWith name rows task

abbrev pub Names : Option (Text × List Row) → Task → Type 0
Names None task = task ≡ tasks.Rehearse
Names (Some given) task = AsksBy (command_named given.0) given.1 task

-- the command asks for a task on a disk
abbrev pub AsksOnDisk : Text × List Row → Task → Type 0
AsksOnDisk given task = IsSome (paths_of task) × Names (Some given) task

-- the task, by whether the version is asked for: a command next to that flag is not run
abbrev pub NamesOrVersion : Bool → Option (Text × List Row) → Task → Type 0
NamesOrVersion true given task = task ≡ tasks.Version
NamesOrVersion false given task = Names given task

-- these arguments are accepted and ask for this task
abbrev pub AsksFor : List Text → Task → Type 0
AsksFor arguments task = (refusals arguments ≡ []) × NamesOrVersion (wants_version arguments) (command_in arguments) task

-- the arguments are accepted and ask for this task, or the error is refused memory or a refusal of the arguments
abbrev pub ReadsArguments : List Text → Result Task Error → Type 0
ReadsArguments arguments result = MatchResult result (AsksFor arguments) (HasKind (refusals arguments))
