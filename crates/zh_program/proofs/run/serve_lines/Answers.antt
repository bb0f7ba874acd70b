use Rattle.std.proofs.Common.{rules, ◌≡◌, Err}
use Rattle.zh_program.specs.declared.fault.TaskFault.TheVariants as faults
use Rattle.zh_program.proofs.run.serve_lines.Goals as goal

pub returns-in_err-serve : goal.returns-in_err-serve
returns-in_err-serve g c =
    let is : c.from_residual.result ≡ Err (faults.Serve c.in_err-serve.field-0.0) = search rules in
    let was : c.serve.result ≡ Err c.in_err-serve.field-0.0 = search rules in
    rw is (record {
      disk = record { kept = c.serve.ensures.disk.kept; later = c.serve.ensures.disk.later; cause = λ none. absurd none };
      served = rw was at c.serve.ensures.serves;
      reads = rw (← c.most_reads.ensures) (rw was at c.serve.ensures.reads);
    })

pub returns-then-faulted : goal.returns-then-faulted
returns-then-faulted g c = record {
  disk = record { kept = c.serve.ensures.disk.kept; later = c.serve.ensures.disk.later; cause = λ _. c.serve.ensures.disk.cause c.requires.whole (search rules) };
  served = (c.in_ok-serve.field-0, rw c.in_ok-serve.was at c.serve.ensures.serves, search rules);
  reads = rw (← c.most_reads.ensures) (rw c.in_ok-serve.was at c.serve.ensures.reads);
}

pub returns : goal.returns
returns g c = record {
  disk = record { kept = c.serve.ensures.disk.kept; later = c.serve.ensures.disk.later; cause = tt };
  served = (c.in_ok-serve.field-0, rw c.in_ok-serve.was at c.serve.ensures.serves, search rules);
  reads = rw (← c.most_reads.ensures) (rw c.in_ok-serve.was at c.serve.ensures.reads);
}

pub serve-requires : goal.serve-requires
serve-requires g c = c.requires.film
