-- What clap reads from an argument and from a command.
use Rattle.std.specs.Prelude.{◌≡◌, List, [], Some, codes, false, fold, true}
use Rattle.clap.specs.Words.{App, Rule, Text, app_of, new_app, new_rule, rule_of, with_rule}
use Rattle.clap.specs.declared.builder.action.ArgAction.TheVariants.{SetTrue}
use Rattle.clap.specs.declared.builder.arg.Arg.{Arg}
use Rattle.clap.specs.declared.builder.command.Command.{Command}
use Rattle.clap.specs.declared.builder.command.Command.TheViews.{out-Command as fields_of}

-- clap reads this rule from an argument, which is not global
abbrev pub IsArgument : Arg → Rule → Type 0
IsArgument argument rule = (rule_of argument ≡ rule) × (argument.global ≡ false)

-- a required value, after `--name`
abbrev pub argument_rule : Text → Rule
argument_rule name = record (new_rule name) { long = Some name; required = true; value_names = 1 }

-- an optional value, after `--name`
abbrev pub option_rule : Text → Rule
option_rule name = record (new_rule name) { long = Some name; value_names = 1 }

-- a flag `--name`, which takes no value
abbrev pub flag_rule : Text → Rule
flag_rule name = record (new_rule name) { long = Some name; action = Some SetTrue }

-- the command with this name and these arguments
abbrev pub command_taking : Text → List Rule → App
command_taking name rules = fold with_rule (new_app name) rules

-- this is what clap reads from a command; none of its arguments is global
abbrev pub IsCommand : Command → App → Type 0
IsCommand command app = (app_of command ≡ app) × ((fields_of command).has_globals ≡ false)

-- the program without its commands: it has one flag, and its own name is not among the arguments
abbrev pub bare : App
bare = with_rule (record { top = record (new_app (codes "zhcount")).top { no_binary_name = true }; subs = [] })
    (flag_rule (codes "version"))
