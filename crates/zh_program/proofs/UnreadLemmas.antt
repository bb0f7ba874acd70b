-- The report of arguments that can't be read.
use Rattle.std.proofs.Common.{◌≡◌, ℕ, List, Option, None, refl, sym, subst}
use Rattle.std.specs.declared.io.ErrorKind.{ErrorKind}
use Rattle.std.specs.declared.io.ErrorKind.TheVariants as kinds
use Rattle.zh_file.specs.declared.world.Remark.{Remark}
use Rattle.zh_program.specs.Does.{unread}
use Rattle.zh_program.specs.Remarks.{BecameOf}
use Rattle.zh_program.specs.Reports.{report_text}
use Rattle.zh_program.specs.declared.fault.TaskFault.TheVariants as faults

-- If all of them are UTF-8, memory was refused.
pub unread_other : (kind : ErrorKind) → (kind ≡ kinds.InvalidData → ⊥) → unread kind ≡ (1, report_text None faults.Memory)
unread_other kinds.InvalidData other = absurd (other refl)
unread_other kind other = refl

-- What was reported is what this reports.
pub said_as : (remark : Remark) (old new : Option (List ℕ)) (kind : ErrorKind) (said : ℕ × List ℕ) → unread kind ≡ said
    → BecameOf remark old new said.1 → BecameOf remark old new (unread kind).1
said_as remark old new kind said is by = subst (λ (u : ℕ × List ℕ). BecameOf remark old new u.1) (sym is) by
