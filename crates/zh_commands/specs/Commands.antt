-- The command that a line gives by itself.
use Rattle.zh_returns.specs.declared.command.Command.{Command}
use Rattle.zh_returns.specs.declared.command.Command.TheVariants as commands
use Rattle.zh_returns.specs.declared.batch.Desk.{Desk}
use Rattle.zh_commands.specs.declared.lines.DeskCommand.{DeskCommand}
use Rattle.zh_commands.specs.declared.lines.DeskCommand.TheVariants as desk_commands

-- the command, given by this desk
abbrev pub desk_command : Desk → DeskCommand → Command
desk_command desk (desk_commands.Return row) = commands.Return desk.number row
desk_command desk (desk_commands.Withdraw municipality list number) = commands.Withdraw desk.number municipality list number
desk_command desk (desk_commands.Close municipality) = commands.Close municipality
desk_command desk (desk_commands.Reopen municipality) = commands.Reopen municipality
