use Rattle.std.proofs.Common.{◌∙◌, Err, ap, sym, ⊎_elim, arith}
use Rattle.std.proofs.lemmas.Result.{IfOk-weaker}
use Rattle.toml.specs.View.{table_view}
use Rattle.zh_setups.specs.SetupText.{SetupOf, Describes}
use Rattle.zh_setups.specs.declared.text.SetupRefusal.{SetupRefusal}
use Rattle.zh_setups.proofs.SetupTextLemmas.{reading_of-table, reading_of-none}
use Rattle.zh_setups.proofs.text.read_setup.Goals as goal

pub returns-in-Ok-clause-set_up : goal.returns-in-Ok-clause-set_up
returns-in-Ok-clause-set_up c =
    let document = table_view c.in-Ok.document in
    rw (reading_of-table c.args.text.now document (omega arith) c.in-Ok.ensures.ok.0 c.in-Ok.ensures.ok.1) c.read_placed.ensures.set_up

pub returns-in-Ok-clause-fault : goal.returns-in-Ok-clause-fault
returns-in-Ok-clause-fault c =
    let document = table_view c.in-Ok.document in
    rw (reading_of-table c.args.text.now document (omega arith) c.in-Ok.ensures.ok.0 c.in-Ok.ensures.ok.1) c.read_placed.ensures.fault

pub returns-in-Ok-clause-table : goal.returns-in-Ok-clause-table
returns-in-Ok-clause-table c =
    let document = table_view c.in-Ok.document in
    IfOk-weaker c.read_placed.result (SetupOf document) (Describes c.args.text.now) (λ setup holds. (document, c.in-Ok.ensures.ok.1, holds)) c.read_placed.ensures.table

pub returns-in-Err-clause-fault : goal.returns-in-Err-clause-fault
returns-in-Err-clause-fault c = λ other. ⊎_elim
    (λ memory. absurd (other (ap (λ (r : SetupRefusal). r.fault) memory.1)))
    (λ at. reading_of-none c.args.text.now (omega arith) (c.in-Err.ensures.refused at.0) ∙ sym (ap (λ (r : SetupRefusal). Err r.fault) at.1))
    c.refusal_of.ensures
