use Rattle.zh_record_text.proofs.CallerLemmas.{Puts-none, Puts-element}
use Rattle.zh_tables.specs.Returns.{return_row}
use Rattle.zh_tables.proofs.due.write_each_return.Goals as goal

pub loop-due-init : goal.loop-due-init
loop-due-init g c = Puts-none g.W.Write.contents c.args.writer.now c.requires

pub loop-due-preserved : goal.loop-due-preserved
loop-due-preserved g c = Puts-element g.W.Write.contents return_row c.args.returns.now c.loop-due.due-index _ c.args.writer.now c.loop-due.writer c.write_return.new.writer c.loop-due-test.true c.loop-due.invariant c.in_ok-write_return.ensures
