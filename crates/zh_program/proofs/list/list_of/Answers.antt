use Rattle.std.proofs.Common.{rules, ◌≡◌, refl, sym, subst, List, ℕ, Err}
use Rattle.std.proofs.lemmas.Result.{err_from_is_err_and}
use Rattle.zh_tables.specs.Tables.{IsTableText}
use Rattle.zh_tables.specs.declared.fault.ListFault.TheVariants as lists
use Rattle.zh_program.specs.declared.fault.TaskFault.TheVariants as faults
use Rattle.zh_program.proofs.ListLemmas.{made, may_list}
use Rattle.zh_program.proofs.list.list_of.Goals as goal

pub returns-in_err-text : goal.returns-in_err-text
returns-in_err-text c =
    let p = err_from_is_err_and c.from_residual.result c.from_residual.ensures.1 in
    rw p.1 (c.in_err-text.field-0.0, p.2, c.in_err-text.ensures.fault)

pub returns-in_err-exceeds : goal.returns-in_err-exceeds
returns-in_err-exceeds c =
    let is : c.from_residual-in_err-exceeds.result ≡ Err faults.Memory = search rules in
    rw is (lists.Memory, refl, tt)

pub returns : goal.returns
returns c =
    let of = c.in_ok-text.ensures.written in
    let text : c.in_ok-text.text.items ≡ of.0 = made _ _ of.0 c.new.ensures.items of.2 in
    let table = subst (λ (t : List ℕ). IsTableText c.args.setup.now c.args.table t) (sym text) of.1 in
    may_list c.args.setup.now c.args.table c.in_ok-text.text.items c.in_ok-exceeds.exceeds c.advise.result table c.in_ok-exceeds.ensures c.advise.ensures
