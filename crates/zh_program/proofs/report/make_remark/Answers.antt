use Rattle.std.proofs.Common.{refl}
use Rattle.zh_program.proofs.LoadLemmas.{writes_front}
use Rattle.zh_program.proofs.report.make_remark.Goals as goal

pub returns-in-Err : goal.returns-in-Err
returns-in-Err g c = writes_front (g.E.Write.contents c.args.faults.now) (g.E.Write.contents c.put.new.out) _ c.args.text.now refl c.in-Err.ensures.front
