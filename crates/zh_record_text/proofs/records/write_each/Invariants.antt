use Rattle.zh_text.specs.Each.{each_to}
use Rattle.zh_record_text.specs.Records.{PutsText}
use Rattle.zh_record_text.proofs.records.write_each.Given as goal

abbrev pub invariant-loop-place : goal.invariant-loop-place
invariant-loop-place g l = PutsText g.W.Write.contents (each_to l.place (g.T.NumberedRows.text l.fn.rows)) l.fn.writer l.writer
