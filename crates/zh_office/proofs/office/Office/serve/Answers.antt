use Rattle.std.proofs.Common.{◌≡◌, ℕ, ◌+◌, [], ◌∷◌, Err, List, ap, arith, map, refl, rules, sym, subst, ◌∙◌}
use Rattle.zh_film.specs.Frames.{frame_of, reads_in}
use Rattle.zh_film.specs.Scenes.{scene}
use Rattle.zh_film.specs.declared.kind.FrameKind.TheVariants.{Between, Ended}
use Rattle.zh_office.specs.Served.{HasFailedRead, Session, session}
use Rattle.zh_office.specs.declared.service.ServeFault.TheVariants as faults
use Rattle.zh_office.proofs.ContinuesLemmas.{serves_continues}
use Rattle.zh_office.proofs.FilmLemmas.{unfailed, unfailed_write}
use Rattle.zh_office.proofs.FilmReadLemmas.{gave_some, read_counts}
use Rattle.zh_office.proofs.InputLemmas.{Serving-start, Serving-clean, Serving-more, Serving-breaks, Serving-breaks_calm}
use Rattle.zh_office.proofs.InputLemmas.{Serving-last, Serving-last_breaks, Serving-stops, Serving-fails}
use Rattle.zh_office.proofs.InputLemmas.{Serving-ends, Consumes-kept, gave_bytes, gave_none}
use Rattle.zh_office.proofs.ReadCountLemmas.{TakesReads-start, TakesReads-more, TakesReads-same, TakesReads-stops}
use Rattle.zh_office.proofs.office.Office.serve.Goals as goal

pub loop-init : goal.loop-init
loop-init g c =
    let old : Session = session (g.W.Write.contents c.args.writer.now) c.args.self.now (g.D.Disk.history c.args.disk.now) (g.R.Read.remaining c.args.reader.now) [] in
    let shown = map (frame_of g.R.Read g.W.Write g.D.Disk) in
    let noted = ap shown (c.note.ensures ∙ ap (λ (l : List _). scene Between c.args.reader.now c.args.writer.now c.args.disk.now ∷ l) c.requires) in
    record {
      serving = Serving-start old _ _ c.new-line.ensures noted;
      reads = TakesReads-start _;
      asked = ap reads_in noted;
    }

pub returns-in_default : goal.returns-in_default
returns-in_default g c =
    let noted = ap (map (frame_of g.R.Read g.W.Write g.D.Disk)) c.in_default.ensures.scenes in
    let kept = Consumes-kept _ _ c.in_default.ensures.bytes in
    let served = Serving-fails _ _ _ _ _ _ c.loop.invariant.serving noted kept in
    record {
      serves = served;
      failed = ((λ _. refl), (λ _. subst HasFailedRead (sym noted) refl));
      disk = serves_continues _ _ _ served;
      reads = (
        c.loop.counter,
        read_counts _ _ _ _ refl refl noted ∙ ap (λ (n : ℕ). n + 1) c.loop.invariant.asked,
        c.loop-test.true,
        TakesReads-stops _ _ _ _ c.loop.invariant.reads kept,
      );
    }

pub returns-in_err-last : goal.returns-in_err-last
returns-in_err-last g c =
    let is : c.from_residual.result ≡ Err faults.Write = search rules in
    let noted = ap (map (frame_of g.R.Read g.W.Write g.D.Disk)) (rw c.if-len-eq0.true at c.in-Ok.ensures.scenes) in
    let none = rw c.if-len-eq0.true at c.in-Ok.ensures.bytes.0 in
    let last = rw c.in_err-last.was at c.finish.ensures in
    let served = Serving-last_breaks _ _ _ _ _ _ _ c.loop.invariant.serving noted none (c.in-Ok.ensures.bytes.1 c.if-len-eq0.true (omega (arith, c.read.auto.into))) last in
    let asked = last.unread.reads ∙ read_counts _ _ _ _ refl refl noted ∙ ap (λ (n : ℕ). n + 1) c.loop.invariant.asked in
    record {
      serves = rw is served;
      failed = unfailed_write _ _ (Serving-breaks_calm _ _ _ _ _ _ _ _ c.loop.invariant.serving Ended gave_none noted last) is;
      disk = serves_continues _ _ _ served;
      reads = rw is ((
        c.loop.counter,
        omega (arith, asked),
        omega (arith, asked),
        omega (arith, asked, c.loop-test.true),
        TakesReads-stops _ _ _ _ c.loop.invariant.reads none,
      ));
    }

pub returns-then-len-eq0 : goal.returns-then-len-eq0
returns-then-len-eq0 g c =
    let noted = ap (map (frame_of g.R.Read g.W.Write g.D.Disk)) (rw c.if-len-eq0.true at c.in-Ok.ensures.scenes) in
    let none = rw c.if-len-eq0.true at c.in-Ok.ensures.bytes.0 in
    let last = rw c.in_ok-last.was at c.finish.ensures in
    let served = Serving-ends _ _ _ _ _ _ _ _ _ c.loop.invariant.serving noted none (c.in-Ok.ensures.bytes.1 c.if-len-eq0.true (omega (arith, c.read.auto.into)))
    last c.saturating_add.ensures in
    record {
      serves = served;
      failed = unfailed _ _ (Serving-last _ _ _ _ _ _ _ c.loop.invariant.serving noted last.1).on.calm (λ is. cc);
      disk = serves_continues _ _ _ served;
      reads = (
        c.loop.counter,
        last.1.unread.reads ∙ read_counts _ _ _ _ refl refl noted ∙ ap (λ (n : ℕ). n + 1) c.loop.invariant.asked,
        c.loop-test.true,
        TakesReads-stops _ _ _ _ c.loop.invariant.reads none,
      );
    }

pub take_block-requires : goal.take_block-requires
take_block-requires g c = Serving-clean _ _ _ _ c.loop.invariant.serving

pub returns-in_err-lines : goal.returns-in_err-lines
returns-in_err-lines g c =
    let is : c.from_residual-in_err-lines.result ≡ Err faults.Write = search rules in
    let noted = ap (map (frame_of g.R.Read g.W.Write g.D.Disk)) (rw (gave_some c.in-Ok.len (omega arith)) at c.in-Ok.ensures.scenes) in
    let taken = rw c.in_err-lines.was at c.take_block.ensures in
    let served = Serving-breaks _ _ _ _ _ _ _ _ c.loop.invariant.serving noted c.in-Ok.ensures.bytes.0 taken in
    let asked = taken.unread.reads ∙ read_counts _ _ _ _ refl refl noted ∙ ap (λ (n : ℕ). n + 1) c.loop.invariant.asked in
    record {
      serves = rw is served;
      failed = unfailed_write _ _ (Serving-breaks_calm _ _ _ _ _ _ _ _ c.loop.invariant.serving Between gave_bytes noted taken) is;
      disk = serves_continues _ _ _ served;
      reads = rw is ((
        c.loop.counter + 1,
        omega (arith, asked),
        omega (arith, asked),
        omega (arith, asked, c.loop-test.true),
        TakesReads-more _ _ _ _ _ _ c.loop.invariant.reads c.in-Ok.ensures.bytes.0 (omega arith) c.in-Ok.ensures.bound.0 (omega (arith, c.read.auto.into)),
      ));
    }

pub loop-preserved : goal.loop-preserved
loop-preserved g c =
    let noted = ap (map (frame_of g.R.Read g.W.Write g.D.Disk)) (rw (gave_some c.in-Ok.len (omega arith)) at c.in-Ok.ensures.scenes) in
    let taken = rw c.in_ok-lines.was at c.take_block.ensures in
    record {
      serving = Serving-more _ _ _ _ _ _ _ _ _ _ _ c.loop.invariant.serving noted c.in-Ok.ensures.bytes.0 taken c.saturating_add-count.ensures;
      reads = TakesReads-more _ _ _ _ _ _ c.loop.invariant.reads c.in-Ok.ensures.bytes.0 (omega arith) c.in-Ok.ensures.bound.0 (omega (arith, c.read.auto.into));
      asked = taken.films.unread.reads ∙ read_counts _ _ _ _ refl refl noted ∙ ap (λ (n : ℕ). n + 1) c.loop.invariant.asked;
    }

pub returns : goal.returns
returns g c =
    let served = Serving-stops _ _ _ _ c.loop.invariant.serving in
    record {
      serves = served;
      failed = unfailed _ _ c.loop.invariant.serving.films.on.calm (λ is. cc);
      disk = serves_continues _ _ _ served;
      reads = (c.loop.invariant.asked ∙ (omega arith), c.loop.invariant.serving.unended, TakesReads-same _ _ _ _ c.loop.invariant.reads (omega arith));
    }
