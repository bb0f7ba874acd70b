use Rattle.std.proofs.Common.{rules, ap, inl, map, Bool, List, Option, Some, subst, ◌≡◌, ◌∙◌}
use Rattle.std.specs.Prelude.{if◌then◌else◌}
use Rattle.std.specs.String.{string_bytes}
use Rattle.std.proofs.lemmas.Result.{err_from_is_err_and}
use Rattle.clap.specs.Words.{app_of, found_of, rows_of, subcommand_rows_of, Row, Text}
use Rattle.zh_arguments.specs.Arguments.{Names, misuse_in}
use Rattle.zh_arguments.specs.declared.arguments.Task.TheVariants.{Version}
use Rattle.zh_arguments.proofs.ArgumentLemmas.{asked, command_read, flag_read, named, parts, refused, refused_misuse}
use Rattle.zh_arguments.proofs.arguments.read_arguments.Goals as goal

pub returns-in_err-matches : goal.returns-in_err-matches
returns-in_err-matches c =
    let has = refused (app_of c.in_ok-zhcount.field-0) (map string_bytes c.args.arguments.now) c.in_err-matches.field-0.0 c.in_ok-zhcount.ensures c.in_err-matches.ensures.kinds in
    search rules

pub returns-in_err-zhcount : goal.returns-in_err-zhcount
returns-in_err-zhcount c =
    let p = err_from_is_err_and c.from_residual.result c.from_residual.ensures.1 in
    rw p.1 (inl p.2)

pub returns-in-Ok : goal.returns-in-Ok
returns-in-Ok c =
    let arguments = map string_bytes c.args.arguments.now in
    let app = app_of c.in_ok-zhcount.field-0 in
    let read = command_read app arguments c.in_ok-matches.matches c.in_ok-zhcount.ensures c.in_ok-matches.ensures.matches in
    let given = parts (λ p. p.0.now) (λ p. rows_of (found_of p.1.now)) c.subcommand.result (subcommand_rows_of c.in_ok-matches.matches)
    (c.subcommand.ensures.name ∙ named c.in_ok-matches.matches) c.subcommand.ensures.rows in
    let flag = flag_read app arguments c.in_ok-matches.matches c.in_ok-zhcount.ensures c.in_ok-matches.ensures.matches in
    asked app arguments c.in-Ok.task c.or_version.result c.in_ok-zhcount.ensures c.in_ok-matches.ensures.kinds
    (subst (λ (o : Option (Text × List Row)). Names o c.in-Ok.task) (given ∙ read) c.in-Ok.ensures)
    (c.or_version.ensures ∙ ap (λ (is_version : Bool). if is_version then Version else c.in-Ok.task) flag)

pub returns : goal.returns
returns c =
    let arguments = map string_bytes c.args.arguments.now in
    let app = app_of c.in_ok-zhcount.field-0 in
    let read = command_read app arguments c.in_ok-matches.matches c.in_ok-zhcount.ensures c.in_ok-matches.ensures.matches in
    let given = parts (λ p. p.0.now) (λ p. rows_of (found_of p.1.now)) c.subcommand.result (subcommand_rows_of c.in_ok-matches.matches)
    (c.subcommand.ensures.name ∙ named c.in_ok-matches.matches) c.subcommand.ensures.rows in
    refused_misuse app arguments c.in_ok-refusal-in-Err.field-0 c.in-Err.misuse c.in_ok-zhcount.ensures c.in_ok-matches.ensures.kinds
    (subst (λ (o : Option (Text × List Row)). misuse_in o ≡ Some c.in-Err.misuse) (given ∙ read) c.in-Err.ensures) c.in_ok-refusal-in-Err.ensures
