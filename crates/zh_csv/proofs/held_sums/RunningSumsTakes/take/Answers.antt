use Rattle.std.proofs.Common.{◌∙◌, subst}
use Rattle.csv.specs.Records.{fields_of}
use Rattle.zh_districts.specs.Canton.{IsCanton}
use Rattle.zh_csv.proofs.TakenLemmas.{note_taken}
use Rattle.zh_csv.proofs.held_sums.RunningSumsTakes.take.Goals as goal

pub returns : goal.returns
returns c canton rows has =
    let limits : IsCanton canton = subst IsCanton (c.setup-setup.ensures.setup ∙ has.setup) c.municipalities.ensures.limits in
    let (readable, is) = rw c.in_ok-held_row_of.was at c.held_row_of.ensures in
    note_taken canton rows c.in_ok-held_row_of.field-0 (fields_of c.args.csv_record.now) c.args.self.now c.note.new.self limits readable is has c.note.result (c.note.ensures canton rows has)
