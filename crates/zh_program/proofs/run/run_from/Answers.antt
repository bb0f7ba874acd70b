use Rattle.std.proofs.Common.{rules, refl, ◌≡◌, [], Err}
use Rattle.zh_film.specs.Frames.{frames}
use Rattle.zh_ledger.specs.Submissions.{on_disk}
use Rattle.zh_program.specs.Run.{ServedBy, streams}
use Rattle.zh_program.specs.declared.fault.TaskFault.TheVariants as faults
use Rattle.zh_program.proofs.TaskRunLemmas.{with_office}
use Rattle.zh_program.proofs.StartLemmas.{leaves_after, refused_leaves, starts}
use Rattle.zh_program.proofs.run.run_from.Goals as goal

pub returns-in_err-office : goal.returns-in_err-office
returns-in_err-office g c =
    let is : c.from_residual.result ≡ Err (faults.Open c.in_err-office.field-0.0) = search rules in
    rw is (record {
      rest = refl;
      served = ((refl, refl, c.requires), c.in_err-office.ensures.opening);
      reads = tt;
      disk = refused_leaves _ _ _ c.in_err-office.field-0.0 c.in_err-office.ensures.opening;
    })

pub returns : goal.returns
returns g c =
    let canton = c.args.setup.now in
    let first = g.F.Disk.Disk.history c.args.filmed.now.disk in
    let last = g.F.Disk.Disk.history c.serve_lines.new.disk in
    let start = on_disk c.in_ok-office.office (g.F.Disk.Disk.history c.open.new.disk) in
    let old = streams (g.I.Read.remaining c.args.world.now.input) (g.O.Write.contents c.args.world.now.output) [] in
    let new = streams (g.I.Read.remaining c.serve_lines.new.input) (g.O.Write.contents c.serve_lines.new.out)
    (frames g.I.Read g.O.Write g.F.Disk.Disk c.serve_lines.new.film) in
    record {
      rest = refl;
      served = with_office canton first last _ (ServedBy old new) c.serve_lines.result (λ fault none. none.did) (record {
        start = start;
        end = on_disk c.serve_lines.new.office last;
        spans = record { begun = starts canton first start c.in_ok-office.ensures.opening c.in_ok-office.ensures.held; ended = refl; honest = c.serve_lines.ensures.disk.kept };
        did = c.serve_lines.ensures.served;
      });
      reads = c.serve_lines.ensures.reads;
      disk = leaves_after canton first start.history last _ c.serve_lines.result c.in_ok-office.ensures.opening c.serve_lines.ensures.disk;
    }

pub serve_lines-requires-clause-whole : goal.serve_lines-requires-clause-whole
serve_lines-requires-clause-whole g c = c.in_ok-office.ensures.opening.ready.whole

pub serve_lines-requires-clause-film : goal.serve_lines-requires-clause-film
serve_lines-requires-clause-film g c = c.requires
