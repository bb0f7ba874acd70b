use Rattle.std.proofs.Common.{take}
use Rattle.std.specs.List.{flat_map}
use Rattle.zh_record_text.specs.Records.{PutsText}
use Rattle.zh_tables.specs.Returns.{return_row}
use Rattle.zh_tables.proofs.due.write_each_return.Given as goal

abbrev pub invariant-loop-due : goal.invariant-loop-due
invariant-loop-due g l = PutsText g.W.Write.contents (flat_map return_row (take l.due-index l.returns)) l.fn.writer l.writer
