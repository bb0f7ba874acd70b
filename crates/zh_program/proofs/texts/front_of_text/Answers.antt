use Rattle.std.proofs.Common.{◌≡◌, ◌∙◌, Err, ap, rules}
use Rattle.zh_program.specs.Texts.{IsOfSetup}
use Rattle.zh_program.specs.World.{IsMetAt}
use Rattle.zh_program.specs.declared.place.TaskFile.TheVariants as files
use Rattle.zh_program.proofs.SetupLemmas.{front_known}
use Rattle.zh_program.proofs.TextLemmas.{unopened_as}
use Rattle.zh_program.proofs.texts.front_of_text.Goals as goal

pub returns-in_err-file-clause-fault : goal.returns-in_err-file-clause-fault
returns-in_err-file-clause-fault g c =
    let is : c.from_residual.result ≡ Err c.in_err-file.field-0.0 = search rules in
    let Met = IsMetAt g.F.Files c.args.path.now c.args.files.now c.open_text.new.files in
    let known = g.F.Files.text_at c.args.files.now c.args.path.now in
    rw is (unopened_as files.Setup Met (IsOfSetup known Met) tt (λ cause met. met) c.in_err-file.field-0.0 c.in_err-file.ensures.fault)

pub returns-in-Ok-clause-front : goal.returns-in-Ok-clause-front
returns-in-Ok-clause-front g c =
    let known = g.F.Files.text_at c.args.files.now c.args.path.now in
    let left = g.F.Text.Read.remaining c.take.result.inner in
    let read : left ≡ known = ap g.F.Text.Read.remaining c.take.ensures.inner ∙ c.in_ok-file.ensures.bytes in
    front_known known left c.take.result.limit c.new-text.result.items c.read_to_end.new.buf.items read c.take.ensures.limit c.new-text.ensures.items c.in-Ok.ensures.bytes
