use Rattle.std.proofs.Common.{◌∙◌, ap, fold, sym, take}
use Rattle.std.proofs.lemmas.List.Sums.{fold_more}
use Rattle.clap.specs.Words.{App, app_of, with_subcommand}
use Rattle.zh_arguments.specs.Commands.{commands, with_command}
use Rattle.zh_arguments.specs.Rules.{bare}
use Rattle.zh_arguments.proofs.commands.zhcount.Goals as goal

pub loop-name-preserved : goal.loop-name-preserved
loop-name-preserved c =
    let command = c.in_ok-command.ensures in
    let before = fold with_command bare (take c.loop-name.name-index commands) in
    c.in_ok-program-2.ensures.shape command.1
    ∙ ap (λ (program : App). with_subcommand program (app_of c.in_ok-command.field-0).top) c.loop-name.invariant
    ∙ ap (λ (app : App). with_subcommand before app.top) command.0
    ∙ sym (fold_more with_command bare commands c.loop-name.name-index _ c.loop-name-test.true)
