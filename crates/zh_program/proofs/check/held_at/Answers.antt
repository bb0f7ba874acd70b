use Rattle.std.proofs.Common.{◌≡◌, ◌∙◌, rules, List, Option, Ok, Err, ap, inl, inr, subst, ℕ}
use Rattle.zh_program.specs.Check.{IsExportAt}
use Rattle.zh_program.proofs.check.held_at.Goals as goal

pub returns-in_err-file-clause-fault : goal.returns-in_err-file-clause-fault
returns-in_err-file-clause-fault g c =
    let is : c.from_residual.result ≡ Err c.in_err-file.field-0.0 = search rules in
    rw is (inl c.in_err-file.ensures.fault)

pub returns-in-Ok-clause-sums : goal.returns-in-Ok-clause-sums
returns-in-Ok-clause-sums g c =
    subst (λ (known : Option (List ℕ)). IsExportAt known c.args.setup.now (Ok c.in-Ok.sums))
    (ap g.F.Text.Read.remaining c.new-text.ensures.over ∙ c.in_ok-file.ensures.bytes) c.in-Ok.ensures.held

pub returns-clause-fault : goal.returns-clause-fault
returns-clause-fault g c =
    let export = subst (λ (known : Option (List ℕ)). IsExportAt known c.args.setup.now (Err c.in-Err.fault))
    (ap g.F.Text.Read.remaining c.new-text.ensures.over ∙ c.in_ok-file.ensures.bytes) c.in-Err.ensures.held in
    inr (c.in-Err.fault, c.held_fault.ensures, export)
