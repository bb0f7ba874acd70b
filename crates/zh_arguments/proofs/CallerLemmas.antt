-- Lemmas for the crates above.
use Rattle.std.proofs.Common.{◌≡◌, ◌∙◌, Bool, true, false, List, Option, Some, None, IfSome, ap, sym}
use Rattle.clap.specs.Words.{Row, Text}
use Rattle.zh_arguments.specs.Arguments.{AsksBy, AsksFor, Names, NamesOrVersion, command_in, wants_version}
use Rattle.zh_arguments.specs.Commands.{ArePaths, command_named, paths_of}
use Rattle.zh_arguments.specs.declared.arguments.Paths.{Paths}
use Rattle.zh_arguments.specs.declared.arguments.Task.{Task}
use Rattle.zh_arguments.specs.declared.arguments.Task.TheVariants.{Rehearse, Version}
use Rattle.zh_arguments.specs.declared.commands.CommandName.{CommandName}

-- a task on a disk is asked for together with its paths
pub asked_at : (given : Text × List Row) (task : Task) (paths : Paths) → paths_of task ≡ Some paths → Names (Some given) task → ArePaths given.1 paths
asked_at given task paths on asks = at (command_named given.0) asks
  where
    found : (known : Option Paths) → known ≡ Some paths → IfSome known (ArePaths given.1) → ArePaths given.1 paths
    found None is are = absurd cc
    found (Some p) is are = let same : p ≡ paths = cc in rw (← same) are

    at : (name : Option CommandName) → AsksBy name given.1 task → ArePaths given.1 paths
    at None asks = let wrong : paths_of Rehearse ≡ Some paths = ap paths_of (sym asks) ∙ on in absurd cc
    at (Some name) asks = found (paths_of task) on asks.1

-- a task other than the version is asked for by a command, or by leaving it out
pub asked_by_command : (arguments : List Text) (task : Task) → (task ≡ Version → ⊥) → AsksFor arguments task → Names (command_in arguments) task
asked_by_command arguments task other asks = at (wants_version arguments) asks.1
  where
    at : (is_version : Bool) → NamesOrVersion is_version (command_in arguments) task → Names (command_in arguments) task
    at true asks = absurd (other asks)
    at false asks = asks
