use Rattle.std.proofs.lemmas.Result.{IfOk-weaker}
use Rattle.clap.specs.Words.{AddsArg}
use Rattle.zh_arguments.specs.Commands.{rules_of}
use Rattle.zh_arguments.specs.Rules.{IsCommand, command_taking}
use Rattle.zh_arguments.specs.declared.commands.CommandName.TheVariants as names
use Rattle.zh_arguments.proofs.RuleLemmas.{takes_more}
use Rattle.zh_arguments.proofs.view.status_command.Goals as goal

pub returns : goal.returns
returns c =
    let one = takes_more _ _ _ _ _ c.in_ok-with_disk.ensures c.flag.ensures c.in_ok-arg.ensures in
    let two = takes_more _ _ _ _ _ one c.flag-2.ensures c.in_ok-arg-2.ensures in
    IfOk-weaker c.arg-3.result (AddsArg c.in_ok-arg-2.field-0 c.flag-3.result)
    (λ command. IsCommand command (command_taking c.args.name.now (rules_of names.Status)))
    (λ command adds. takes_more _ command _ _ _ two c.flag-3.ensures adds) c.arg-3.ensures
