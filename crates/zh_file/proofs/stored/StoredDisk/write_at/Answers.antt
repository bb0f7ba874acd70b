use Rattle.std.proofs.Common.{◌∷◌, inl, refl, arith, ap, ◌∙◌}
use Rattle.std.proofs.lemmas.Grind.{common_steps}
use Rattle.std.specs.Prelude.{map}
use Rattle.zh_film.specs.Past.{items}
use Rattle.zh_file.specs.Stored.{moment}
use Rattle.zh_file.proofs.CallLemmas.{writes}
use Rattle.zh_file.proofs.FailureLemmas.{file_counts, refused_call}
use Rattle.zh_file.proofs.stored.StoredDisk.write_at.Goals as goal

pub returns-clause-call : goal.returns-clause-call
returns-clause-call g c =
    let call = c.write_at-done.ensures in
    record {
      kept = call.clean;
      did = λ clean.
          let size = c.args.self.now.size (call.clean clean) in
          writes _ _ _ _ _ _ c.args.at c.args.from.now c.write_at-done.result c.reported-done.result c.reported-done.ensures
          (c.push-2.ensures ∙ ap (λ r. r ∷ items c.args.self.now.held.written) c.of-2.ensures)
          (ap (map (moment g.D.Disk.seen)) c.push.ensures ∙ ap (λ h. moment g.D.Disk.seen h ∷ map (moment g.D.Disk.seen) (items c.args.self.now.before)) c.of.ensures)
          (omega (arith, c.requires, size)) call.others call.written;
      counts = file_counts _ _ _ c.write_at-done.result c.reported-done.result c.reported-done.ensures call.faults;
    }

pub returns-then-self-clause-call : goal.returns-then-self-clause-call
returns-then-self-clause-call g c = refused_call _ _ (g.D.Disk.faults c.args.self.now.held.file) _ _ c.refused.ensures.fails c.refused.ensures.counts (λ fault. record { ok = tt; err = inl refl })

pub invariant_of-self-2 : goal.invariant_of-self-2
invariant_of-self-2 g c = grind (arith, common_steps)
