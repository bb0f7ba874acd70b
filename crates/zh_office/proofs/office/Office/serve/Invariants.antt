use Rattle.std.proofs.Common.{◌≡◌, []}
use Rattle.zh_film.specs.Frames.{frames, reads_in}
use Rattle.zh_office.specs.Served.{session, TakesReads}
use Rattle.zh_office.proofs.InputLemmas.{Serving}
use Rattle.zh_office.proofs.office.Office.serve.Given as goal

abbrev pub invariant-loop : goal.invariant-loop
invariant-loop g l =
    let remaining = g.R.Read.remaining in
    let contents = g.W.Write.contents in
    let history = g.D.Disk.history in
    let shown = frames g.R.Read g.W.Write g.D.Disk in
    record {
      serving : Serving (session (contents l.fn.writer) l.fn.self (history l.fn.disk) (remaining l.fn.reader) [])
          (session (contents l.writer) l.self (history l.disk) (remaining l.reader) (shown l.film)) l.line.items l.count;
      reads : TakesReads (remaining l.fn.reader) (remaining l.reader) l.counter;
      asked : reads_in (shown l.film) ≡ l.counter;
    }
