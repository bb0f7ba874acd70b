use Rattle.std.proofs.Common.{arith, refl}
use Rattle.zh_disk.proofs.CallerLemmas.{failed, handed, followed, asks_so, asks_more}
use Rattle.zh_journal.proofs.PayloadLemmas.{payload_read}
use Rattle.zh_journal.proofs.record.read_payload.Goals as goal

pub returns-in_err-read_page : goal.returns-in_err-read_page
returns-in_err-read_page g c = record {
  call = failed c.from_residual.ensures (λ d is. refl) (λ d is h by. asks_more (λ p q. tt) by.1 by.2) (followed refl c.loop-i.invariant.so_far c.in_err-read_page.ensures.call);
}

pub loop-i-preserved : goal.loop-i-preserved
loop-i-preserved g c = record {
  so_far = handed refl (λ h by. asks_more (λ p q k low high. grind (arith, p, q, c.read_page.ensures.rest)) by.1 by.2) (followed refl c.loop-i.invariant.so_far c.in_ok-read_page.ensures.call);
}

pub returns : goal.returns
returns g c = record {
  call = handed refl (λ h by. asks_so (λ told r staged long.
      payload_read (g.D.Disk.history c.args.disk.now).trail.now.bytes c.loop-i.buffer r c.args.at c.args.len staged long
      (omega (arith, g.met.D.Disk.size c.args.disk.now h, c.requires.room)) (omega (arith, c.loop-i.auto.buffer))
      (λ k low. told k (omega arith) low)) by)
      c.loop-i.invariant.so_far;
}
