use Rattle.std.proofs.Common.{◌≡◌, ◌∙◌, Err, Option, List, ℕ, rules, subst, sym}
use Rattle.std.specs.Io.Buffered.{reader_buffer}
use Rattle.zh_program.specs.Load.{HasBegun, IsUnreadable}
use Rattle.zh_program.specs.World.{IsMetAt}
use Rattle.zh_program.specs.declared.place.TaskFile.TheVariants as files
use Rattle.zh_program.proofs.LoadLemmas.{fresh_buffer, has_begun}
use Rattle.zh_program.proofs.TextLemmas.{unopened_as}
use Rattle.zh_program.proofs.load.text_at.Goals as goal

pub returns-in_err-file-clause-fault : goal.returns-in_err-file-clause-fault
returns-in_err-file-clause-fault g c =
    let is : c.from_residual.result ≡ Err c.in_err-file.field-0.0 = search rules in
    let Met = IsMetAt g.F.Files c.args.path.now c.args.files.now c.open_text.new.files in
    rw is (unopened_as files.Csv Met (IsUnreadable Met) tt (λ cause met. met) c.in_err-file.field-0.0 c.in_err-file.ensures.fault)

pub returns-clause-begun : goal.returns-clause-begun
returns-clause-begun g c =
    subst (λ (known : Option (List ℕ)). HasBegun known (reader_buffer c.fill_buf.follows.lender-at-none))
    (fresh_buffer g.F.Text.Read.remaining c.in-Ok.text c.in_ok-file.file c.in-Ok.ensures.capacity c.in-Ok.ensures.empty
    c.in-Ok.ensures.inner ∙ c.in_ok-file.ensures.bytes)
    (has_begun _ _ c.fill_buf.result (sym c.is_err.ensures.value ∙ c.if-is_err.false) c.fill_buf.follows.holds-at-none.1 c.fill_buf.ensures.end)
