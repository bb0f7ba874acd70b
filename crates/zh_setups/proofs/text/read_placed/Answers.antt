use Rattle.std.proofs.Common.{Ok, Err, ap, ◌∙◌}
use Rattle.std.specs.Prelude.{is_some}
use Rattle.toml.specs.View.{table_view}
use Rattle.zh_setups.specs.Document.{checked}
use Rattle.zh_setups.proofs.RangeLemmas.{fault_placed}
use Rattle.zh_setups.proofs.SetupTextLemmas.{given_fault}
use Rattle.zh_setups.proofs.TableLemmas.{given_table}
use Rattle.zh_setups.proofs.text.read_placed.Goals as goal

pub returns-in-Ok-clause-table : goal.returns-in-Ok-clause-table
returns-in-Ok-clause-table c = given_table (table_view c.args.document.now) (Ok c.in-Ok.setup) c.in-Ok.ensures

pub returns-in-Err-clause-fault : goal.returns-in-Err-clause-fault
returns-in-Err-clause-fault c = given_fault (Err c.in-Err.fault) (checked (table_view c.args.document.now)) c.in-Err.ensures

pub returns-in-Err-clause-placed : goal.returns-in-Err-clause-placed
returns-in-Err-clause-placed c = λ other.
    let document = table_view c.args.document.now in
    ap is_some c.fault_place.ensures ∙ fault_placed document c.in-Err.fault (given_fault (Err c.in-Err.fault) (checked document) c.in-Err.ensures other)
