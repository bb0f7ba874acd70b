use Rattle.std.proofs.Common.{rules}
use Rattle.zh_commands.proofs.lines.DeskCommand.of_desk.Goals as goal

pub returns-in-Close-clause-command : goal.returns-in-Close-clause-command
returns-in-Close-clause-command c = search rules

pub returns-in-Return-clause-command : goal.returns-in-Return-clause-command
returns-in-Return-clause-command c = search rules
