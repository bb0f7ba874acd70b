use Rattle.std.proofs.Common.{refl, sym}
use Rattle.std.proofs.lemmas.Result.{err_from_is_err_and}
use Rattle.zh_setups.proofs.EachLemmas.{same_fault}
use Rattle.zh_setups.proofs.document.MunicipalityPart.read.Goals as goal

pub returns : goal.returns
returns c =
    let name = rw c.in_ok-name.ensures.ok_part at c.name.ensures in
    let constituency = rw c.in_ok-constituency.ensures.ok_part at c.number_at.ensures in
    rw (sym name, sym constituency, c.in_ok-from_str.ensures.ok) refl

pub returns-in_err-constituency : goal.returns-in_err-constituency
returns-in_err-constituency c =
    let p = err_from_is_err_and c.from_residual-in_err-constituency.result c.from_residual-in_err-constituency.ensures.1 in
    let name = rw c.in_ok-name.ensures.ok_part at c.name.ensures in
    let none = rw c.in_err-constituency.ensures.ok_part at c.number_at.ensures in
    let range = same_fault _ _ (rw c.in_err-constituency.ensures.ok_part at c.in_err-constituency.ensures.value) in
    rw (p.1, p.2, range, sym name, sym none) refl
