use Rattle.std.proofs.Common.{◌++◌, ◌+◌, ◌≤◌, length}
use Rattle.zh_film.specs.Frames.{frames}
use Rattle.zh_office.specs.Text.{ended_lines, truncated, unfinished}
use Rattle.zh_office.specs.Served.{session}
use Rattle.zh_office.proofs.BlockLemmas.{Progress}
use Rattle.zh_office.proofs.office.Office.take_block.Given as goal

abbrev pub invariant-loop-ended : goal.invariant-loop-ended
invariant-loop-ended g l =
    let contents = g.W.Write.contents in
    let history = g.D.Disk.history in
    let left = g.R.Read.remaining l.reader in
    let shown = frames g.R.Read g.W.Write g.D.Disk in
    let line = l.fn.line.items in
    record {
      progress : Progress (session (contents l.fn.writer) l.fn.self (history l.fn.disk) left (shown l.fn.film))
          (session (contents l.writer) l.self (history l.disk) left (shown l.film)) (ended_lines (line ++ l.block))
          (truncated (unfinished (line ++ l.block))) l.line.items l.rest l.count;
      room : l.count + length l.rest ≤ length l.block;
    }

abbrev pub decreases-loop-ended : goal.decreases-loop-ended
decreases-loop-ended g l = length l.rest
