use Rattle.std.proofs.Common.{ℕ, ◌≤◌, List, length, subst, rules}
use Rattle.std.proofs.lemmas.Result.{err_from_is_err_and}
use Rattle.zh_office.proofs.BlockLemmas.{last_none, last_failed, last_answered}
use Rattle.zh_office.proofs.office.Office.finish.Goals as goal

pub returns-then-is_empty : goal.returns-then-is_empty
returns-then-is_empty g c = last_none _ _ (search rules)

pub returns-in_err-answer : goal.returns-in_err-answer
returns-in_err-answer g c =
    let p = err_from_is_err_and c.from_residual.result c.from_residual.ensures.1 in
    rw p.1 (last_failed _ _ _ _ (search rules) (subst (λ (xs : List ℕ). length xs ≤ 121) c.deref.ensures.0 c.deref.ensures.1) c.deref.ensures.0 (rw c.in_err-answer.was at c.answer.ensures))

pub returns : goal.returns
returns g c = last_answered _ _ _ _ (search rules) (subst (λ (xs : List ℕ). length xs ≤ 121) c.deref.ensures.0 c.deref.ensures.1) c.deref.ensures.0 (rw c.in_ok-answer.was at c.answer.ensures)
