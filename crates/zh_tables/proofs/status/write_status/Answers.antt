use Rattle.std.proofs.Common.{length, refl}
use Rattle.zh_text.specs.Each.{each_to}
use Rattle.zh_tables.specs.Implausible.{implausible_rows}
use Rattle.zh_tables.specs.Status.{constituency_progress, missing_rows, municipality_progress}
use Rattle.zh_tables.specs.declared.view.View.TheVariants.{Municipalities, Constituencies, Missing, Implausible}
use Rattle.zh_tables.proofs.StatusLemmas.{status_text}
use Rattle.zh_tables.proofs.status.write_status.Goals as goal

pub returns-in-Municipalities : goal.returns-in-Municipalities
returns-in-Municipalities g c =
    let tally = c.args.count.now in
    let rows = each_to (length tally.canton.municipalities) (municipality_progress tally) in
    rw c.in-Municipalities.is (status_text g.W.Write.contents c.args.writer tally Municipalities rows _ refl c.write_table.ensures)

pub returns-in-Constituencies : goal.returns-in-Constituencies
returns-in-Constituencies g c =
    let tally = c.args.count.now in
    let rows = each_to (length tally.canton.constituencies) (constituency_progress tally) in
    rw c.in-Constituencies.is (status_text g.W.Write.contents c.args.writer tally Constituencies rows _ refl c.write_table-in-Constituencies.ensures)

pub returns-in-Missing : goal.returns-in-Missing
returns-in-Missing g c =
    rw c.in-Missing.is (status_text g.W.Write.contents c.args.writer c.args.count.now Missing (missing_rows c.args.count.now) _ refl c.write_table-in-Missing.ensures)

pub returns-in-Ok : goal.returns-in-Ok
returns-in-Ok g c =
    let tally = c.args.count.now in
    let found = c.in-Ok.found in
    rw c.in-Implausible.is (status_text g.W.Write.contents c.args.writer tally Implausible (implausible_rows tally found) _ (found, rw c.setup.ensures at c.in-Ok.ensures, refl) c.write_table-in-Implausible.ensures)
