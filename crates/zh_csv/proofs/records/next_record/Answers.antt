use Rattle.zh_csv.proofs.RecordsLemmas.{found_either}
use Rattle.zh_csv.proofs.records.next_record.Goals as goal

pub returns-in-Ok : goal.returns-in-Ok
returns-in-Ok g c text given has =
    let reads = c.in-Ok.ensures.reads has.trim has.ready in
    let ready = c.in-Ok.ensures.ready has.trim in
    found_either g.R.Read.remaining text given _ c.args.reader.now c.read_byte_record.new.self has c.in-Ok.found
    reads ready c.in-Ok.ensures.flexible
