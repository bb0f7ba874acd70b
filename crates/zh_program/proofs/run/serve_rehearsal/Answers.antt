use Rattle.std.proofs.Common.{refl}
use Rattle.zh_disk.specs.Memory.{memory_history}
use Rattle.zh_ledger.specs.Submissions.{on_disk}
use Rattle.zh_program.proofs.RehearseLemmas.{rehearsed, rehearses}
use Rattle.zh_program.proofs.StartLemmas.{starts}
use Rattle.zh_program.proofs.TaskRunLemmas.{uses_up}
use Rattle.zh_program.proofs.run.serve_rehearsal.Goals as goal

pub returns : goal.returns
returns g c =
    let canton = c.in_ok-setup.setup in
    let first = memory_history c.format_blank.new.disk in
    let last = memory_history c.serve_lines.new.disk in
    let start = on_disk c.in-Ok-open.office (memory_history c.open.new.disk) in
    let end = on_disk c.serve_lines.new.office last in
    let formatted = (c.in-Ok.ensures.call.did refl).formatted in
    record {
      served = rehearsed _ _ _ c.serve_lines.result (record {
        start = start;
        end = end;
        spans = rehearses canton first last start end c.in_ok-setup.ensures refl formatted
            (record { begun = starts canton first start c.in-Ok-open.ensures.opening c.in-Ok-open.ensures.held; ended = refl; honest = c.serve_lines.ensures.disk.kept });
        did = c.serve_lines.ensures.served;
      });
      reads = uses_up _ _ _ _ c.serve_lines.result c.serve_lines.ensures.reads;
    }

pub serve_lines-requires-clause-whole : goal.serve_lines-requires-clause-whole
serve_lines-requires-clause-whole g c = c.in-Ok-open.ensures.opening.ready.whole

pub serve_lines-requires-clause-film : goal.serve_lines-requires-clause-film
serve_lines-requires-clause-film g c = c.requires
