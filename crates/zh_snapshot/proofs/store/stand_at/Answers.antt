use Rattle.std.proofs.Common.{arith, sym, ◌∙◌, refl}
use Rattle.std.proofs.lemmas.Grind.{common_steps}
use Rattle.zh_disk.proofs.CallerLemmas.{handed, followed, asks_so, asks_more}
use Rattle.zh_snapshot.proofs.RangeLemmas.{part_differs, part_equal, bytes_differ, bytes_agree}
use Rattle.zh_snapshot.proofs.store.stand_at.Goals as goal

pub returns-then-ne : goal.returns-then-ne
returns-then-ne g c = record {
  call = handed refl
      (λ h by. asks_more (λ equal stored.
      let b = (g.D.Disk.history c.args.disk.now).trail.now.bytes in
      let other = bytes_differ c.in_ok-stored.stored.now _ c.ne.result c.ne.ensures c.if-ne.true in (
        λ no. absurd (cc),
        λ whole. absurd (part_differs b c.args.bytes.now c.args.at c.loop-compared.compared c.min-n.result (omega arith)
            (omega (arith, g.met.D.Disk.size c.args.disk.now h, c.requires)) (λ same. other (stored ∙ same)) whole),
      )) by.1 by.2)
      (followed refl c.loop-compared.invariant.so_far c.in_ok-stored.ensures.call);
}

pub loop-compared-preserved : goal.loop-compared-preserved
loop-compared-preserved g c = record {
  inside = omega arith;
  so_far = handed refl
      (λ h by. asks_more (λ equal stored.
      let b = (g.D.Disk.history c.args.disk.now).trail.now.bytes in
      let same = bytes_agree c.in_ok-stored.stored.now _ c.ne.result c.ne.ensures c.if-ne.false in
      part_equal b c.args.bytes.now c.args.at c.loop-compared.compared c.min-n.result (omega arith) (omega (arith, g.met.D.Disk.size c.args.disk.now h, c.requires)) equal (sym stored ∙ same)) by.1 by.2)
      (followed refl c.loop-compared.invariant.so_far c.in_ok-stored.ensures.call);
}

pub returns : goal.returns
returns g c = record {
  call = handed refl (λ h by. asks_so (λ equal. grind (arith, common_steps, equal)) by) c.loop-compared.invariant.so_far;
}
