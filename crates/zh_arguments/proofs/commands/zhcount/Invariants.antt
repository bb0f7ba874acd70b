use Rattle.std.proofs.Common.{◌≡◌, fold, take}
use Rattle.clap.specs.Words.{app_of}
use Rattle.zh_arguments.specs.Commands.{commands, with_command}
use Rattle.zh_arguments.specs.Rules.{bare}
use Rattle.zh_arguments.proofs.commands.zhcount.Given as goal

-- the commands so far
abbrev pub invariant-loop-name : goal.invariant-loop-name
invariant-loop-name l = app_of l.program ≡ fold with_command bare (take l.name-index commands)
