use Rattle.std.proofs.Common.{◌≡◌, ◌∙◌, Err, rules, List, Option, ap, subst, ℕ, IfOk}
use Rattle.zh_program.specs.Check.{IsSheetAt, LacksSheetFile}
use Rattle.zh_program.specs.World.{IsMetAt}
use Rattle.zh_program.specs.declared.place.TaskFile.TheVariants as files
use Rattle.zh_program.proofs.CheckLemmas.{opened_result}
use Rattle.zh_program.proofs.TextLemmas.{unopened_as}
use Rattle.zh_program.proofs.sheet_front.sheet_at.Goals as goal

pub returns-in_err-file-clause-fault : goal.returns-in_err-file-clause-fault
returns-in_err-file-clause-fault g c =
    let is : c.from_residual.result ≡ Err c.in_err-file.field-0.0 = search rules in
    let Met = IsMetAt g.F.Files c.args.path.now c.args.files.now c.open_text.new.files in
    rw is (unopened_as files.Sheet Met (LacksSheetFile Met) tt (λ cause met. met) c.in_err-file.field-0.0 c.in_err-file.ensures.fault)

pub returns-clause-sheet : goal.returns-clause-sheet
returns-clause-sheet g c =
    subst (λ (known : Option (List ℕ)). IfOk c.read_front.result (λ text. IsSheetAt known text.items))
    (ap g.F.Text.Read.remaining c.new-text.ensures.over ∙ c.in_ok-file.ensures.bytes) c.read_front.ensures.sheet

pub returns-clause-fault : goal.returns-clause-fault
returns-clause-fault g c = opened_result (IsMetAt g.F.Files c.args.path.now c.args.files.now c.open_text.new.files) c.read_front.result c.read_front.ensures.fault
