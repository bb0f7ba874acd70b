-- Commands that take one more argument.
use Rattle.std.proofs.Common.{◌∙◌, Bool, ◌||◌, ap}
use Rattle.clap.specs.Words.{AddsArg, App, Rule, rule_of, with_rule}
use Rattle.clap.specs.declared.builder.arg.Arg.{Arg}
use Rattle.clap.specs.declared.builder.command.Command.{Command}
use Rattle.zh_arguments.specs.Rules.{IsArgument, IsCommand}

pub takes_more : (old new : Command) (app : App) (argument : Arg) (rule : Rule)
    → IsCommand old app → IsArgument argument rule → AddsArg old argument new → IsCommand new (with_rule app rule)
takes_more old new app argument rule is takes adds = (
  adds.shape takes.1 ∙ ap (λ (a : App). with_rule a (rule_of argument)) is.0 ∙ ap (with_rule app) takes.0,
  adds.globals ∙ ap (λ (b : Bool). b || argument.global) is.1 ∙ takes.1,
)
