use Rattle.std.proofs.Common.{◌≡◌, ◌∙◌, ℕ, List, subst}
use Rattle.std.specs.Prelude.{option_map}
use Rattle.zh_program.specs.Remarks.{BecameOf}
use Rattle.zh_program.specs.Reports.{report_text}
use Rattle.zh_program.proofs.report.report.Goals as goal

pub returns : goal.returns
returns g c =
    let text : c.as_slice.result.now ≡ report_text (option_map (λ p. p.now) c.args.path) c.args.fault = c.as_slice.ensures.value ∙ c.report_lines-lines.ensures in
    subst (λ (t : List ℕ). BecameOf c.make_remark.result (g.E.Write.contents c.args.faults.now) (g.E.Write.contents c.make_remark.new.faults) t) text c.make_remark.ensures
