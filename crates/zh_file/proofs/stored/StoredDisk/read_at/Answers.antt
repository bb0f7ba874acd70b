use Rattle.std.proofs.Common.{length, refl, arith}
use Rattle.std.specs.Prelude.{IsTrue}
use Rattle.zh_file.proofs.CallLemmas.{reads}
use Rattle.zh_file.proofs.FailureLemmas.{file_counts, counts_if, refused_call}
use Rattle.zh_file.proofs.stored.StoredDisk.read_at.Goals as goal

pub returns-clause-call : goal.returns-clause-call
returns-clause-call g c =
    let call = c.read_at-done.ensures in
    record {
      kept = call.clean;
      did = λ clean.
          let size = c.args.self.now.size (call.clean clean) in
          reads _ _ _ _ c.args.at (length c.args.into.now) _ (IsTrue (g.D.Disk.is_clean c.read_at-done.new.self)) c.read_at-done.result c.reported.result c.reported.ensures
          call.seen (omega (arith, c.requires, size)) c.read_at-done.auto.buf clean call.read;
      counts = file_counts _ _ _ c.read_at-done.result c.reported.result c.reported.ensures
          (counts_if _ _ 0 c.read_at-done.result (λ clean. let size = c.args.self.now.size clean in omega (arith, c.requires, size)) call.faults);
    }

pub returns-then-self-clause-call : goal.returns-then-self-clause-call
returns-then-self-clause-call g c = refused_call _ _ (g.D.Disk.faults c.args.self.now.held.file) _ _ c.refused.ensures.fails c.refused.ensures.counts (λ fault. record { same = refl; told = tt })
