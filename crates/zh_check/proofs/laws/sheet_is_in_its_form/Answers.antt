use Rattle.std.proofs.Common.{arith}
use Rattle.zh_check.proofs.SheetLemmas.{sheet_formed}
use Rattle.zh_check.proofs.laws.sheet_is_in_its_form.Goals as goal

pub returns : goal.returns
returns c sheet desk accepted is_final is low high few = sheet_formed sheet (record { desk = desk; is_final = is_final; accepted = accepted }) is low high (omega (arith, few))
