use Rattle.std.proofs.Common.{◌≡◌, Ok, Err, ap, ◌∙◌, rules}
use Rattle.csv.specs.Records.{fields_of}
use Rattle.zh_office.specs.Rows.{row_in}
use Rattle.zh_office.proofs.RowLemmas.{row_in-fields, row_in-unread}
use Rattle.zh_office.proofs.judging.judge_record.Goals as goal

pub returns-in-Ok : goal.returns-in-Ok
returns-in-Ok c =
    let read : row_in (fields_of c.args.csv_record.now) ≡ Ok c.in-Ok.row = ap row_in c.in-Ok.ensures.1 ∙ row_in-fields c.in-Ok.row c.in-Ok.ensures.0 in
    rw read (search rules)

pub returns-in-Err : goal.returns-in-Err
returns-in-Err c =
    let read : row_in (fields_of c.args.csv_record.now) ≡ Err c.in-Err.fault = row_in-unread (fields_of c.args.csv_record.now) c.in-Err.fault c.in-Err.ensures in
    rw read (search rules)
