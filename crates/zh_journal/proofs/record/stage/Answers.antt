use Rattle.std.proofs.Common.{◌≡◌, ℕ, ◌+◌, ◌*◌, ◌++◌, take, length, ap, subst, arith, refl}
use Rattle.zh_disk.specs.Disk.{Trail}
use Rattle.zh_disk.proofs.CallerLemmas.{handed, failed, followed, leaves_more, leaves_weaken, write_changes}
use Rattle.zh_journal.specs.Pages.{bodies, body_of, record_bytes, zero_bytes, pages_of, SameButBodies}
use Rattle.zh_journal.proofs.PageLemmas.{but_refl, but_trans, one_page, staged_next, length-body}
use Rattle.zh_journal.proofs.record.stage.Goals as goal

pub returns-in_err-write_page : goal.returns-in_err-write_page
returns-in_err-write_page g c =
    let r = c.args.payload.now in
    let n = pages_of (length r) in
    let i = c.loop-i.i in
    record {
      call = failed c.from_residual.ensures (λ d is. refl)
          (λ d is h by.
          let page = write_changes _ _ (c.args.at + 256 * i + 1) 255 (body_of r i) _ (length-body r i (omega arith)) (omega (arith, g.met.D.Disk.size c.loop-i.disk by.0, c.requires.room)) by.2 in
          record {
            moments = leaves_more (SameButBodies c.args.at n) _ _ _ (but_refl c.args.at n) (but_trans c.args.at n) by.1.0.moments
                (leaves_weaken _ _ _ _ (λ x f image same. one_page c.args.at n i (omega arith) x f same) page.moments);
            done = tt;
            calls = tt;
          })
          (followed refl c.loop-i.invariant.so_far c.in_err-write_page.ensures.call);
    }

pub loop-i-preserved : goal.loop-i-preserved
loop-i-preserved g c =
    let r = c.args.payload.now in
    let n = pages_of (length r) in
    let i = c.loop-i.i in
    record {
      so_far = handed refl
          (λ h by.
          let long = g.met.D.Disk.size c.loop-i.disk by.0 in
          let page = write_changes _ _ (c.args.at + 256 * i + 1) 255 (body_of r i) _ (length-body r i (omega arith)) (omega (arith, long, c.requires.room)) by.2 in (
            record {
              moments = leaves_more (SameButBodies c.args.at n) _ _ _ (but_refl c.args.at n) (but_trans c.args.at n) by.1.0.moments
                  (leaves_weaken _ _ _ _ (λ x f image same. one_page c.args.at n i (omega arith) x f same) page.moments);
              done = staged_next (g.D.Disk.history c.loop-i.disk).trail.now.bytes c.args.at r i (omega arith) (omega (arith, long, c.requires.room)) by.1.0.done _ page.done;
            },
            omega (arith, by.1.1, ap (λ (t : Trail). length t.past) by.2.ok),
          ))
          (followed refl c.loop-i.invariant.so_far c.in_ok-write_page.ensures.call);
    }

pub returns : goal.returns
returns g c =
    let r = c.args.payload.now in
    let e : c.loop-i.i ≡ pages_of (length r) = omega arith in
    record {
      call = handed refl
          (λ h by. record {
            moments = by.0.moments;
            done = subst (λ (n : ℕ). bodies n (g.D.Disk.history c.loop-i.disk).trail.now.bytes c.args.at ≡ take (255 * n) (record_bytes r ++ zero_bytes 255)) e by.0.done;
            calls = omega (arith, by.1, e);
          })
          c.loop-i.invariant.so_far;
    }
