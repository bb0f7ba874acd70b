use Rattle.std.proofs.Common.{length, length-append, ap, arith, ◌∙◌}
use Rattle.std.proofs.lemmas.Grind.{common_steps}
use Rattle.zh_film.specs.Frames.{frames}
use Rattle.zh_office.specs.Served.{session}
use Rattle.zh_office.proofs.BlockLemmas.{Progress-start, Progress-answered, Progress-failed, Progress-end}
use Rattle.std.proofs.lemmas.Result.{err_from_is_err_and}
use Rattle.zh_office.proofs.office.Office.take_block.Goals as goal

pub loop-ended-init : goal.loop-ended-init
loop-ended-init g c = record {
  progress = Progress-start (session (g.W.Write.contents c.args.writer.now) c.args.self.now (g.D.Disk.history c.args.disk.now)
      (g.R.Read.remaining c.args.reader.now) (frames g.R.Read g.W.Write g.D.Disk c.args.film.now)) c.args.line.now.items c.args.block.now c.requires;
  room = omega arith;
}

pub returns-in_err-answer : goal.returns-in_err-answer
returns-in_err-answer g c =
    let p = err_from_is_err_and c.from_residual.result c.from_residual.ensures.1 in
    rw p.1 (Progress-failed _ _ _ _ _ _ _ _ _ _ _ c.loop-ended.invariant.progress c.in-Some.ensures.0 c.in-Some.ensures.1
    (c.deref.ensures.0 ∙ c.extend_line.ensures) (rw c.in_err-answer.was at c.answer.ensures))

pub loop-ended-preserved : goal.loop-ended-preserved
loop-ended-preserved g c = record {
  progress = rw c.clear.ensures (Progress-answered _ _ _ _ _ _ _ _ _ _ _ c.loop-ended.invariant.progress c.in-Some.ensures.0
      c.in-Some.ensures.1 (c.deref.ensures.0 ∙ c.extend_line.ensures) (rw c.in_ok-answer.was at c.answer.ensures));
  room = omega (arith, c.loop-ended.invariant.room, simp length-append at (ap length c.in-Some.ensures.1));
}

pub returns : goal.returns
returns g c = rw c.extend_line-2.ensures (Progress-end _ _ _ _ _ _ _ c.loop-ended.invariant.progress c.in_default.ensures)

pub loop-ended-smaller : goal.loop-ended-smaller
loop-ended-smaller g c = grind (arith, common_steps)
