use Rattle.std.proofs.Common.{◌≡◌, ◌∙◌, None, refl, sym, ap}
use Rattle.std.specs.IoError.{error_kind}
use Rattle.zh_program.specs.Does.{unread}
use Rattle.zh_program.specs.Reports.{report_text}
use Rattle.zh_program.specs.declared.fault.TaskFault.TheVariants as faults
use Rattle.zh_program.proofs.UnreadLemmas.{said_as, unread_other}
use Rattle.zh_program.proofs.unread.refuse_unread.Goals as goal

pub returns-in-InvalidData-clause-said : goal.returns-in-InvalidData-clause-said
returns-in-InvalidData-clause-said g c =
    let is = ap unread (sym c.kind.ensures ∙ c.in-InvalidData.is) in
    said_as _ _ _ (error_kind c.args.error.now) _ is c.make_remark-world.ensures

pub returns-in_default : goal.returns-in_default
returns-in_default g c =
    let kind = error_kind c.args.error.now in
    let is : unread kind ≡ (1, report_text None faults.Memory) = unread_other kind (λ same. c.in_default.not-InvalidData (c.kind.ensures ∙ same)) in
    record {
      status = sym (ap (λ u. u.0) is);
      rest = refl;
      said = said_as _ _ _ kind _ is c.report-world.ensures;
    }
