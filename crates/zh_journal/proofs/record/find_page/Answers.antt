use Rattle.std.proofs.Common.{◌≡◌, ℕ, ◌+◌, ◌-◌, ◌*◌, drop, arith, sym, subst, refl}
use Rattle.zh_disk.proofs.CallerLemmas.{handed, followed, asks_so, asks_more}
use Rattle.zh_journal.specs.declared.page.Head.TheVariants.{Record}
use Rattle.zh_journal.specs.Pages.{Frames}
use Rattle.zh_journal.specs.Heads.{Heads, TakesAtMost}
use Rattle.zh_journal.proofs.HeadLemmas.{found_more}
use Rattle.zh_journal.proofs.WalkLemmas.{frames_cut, frames_room, frames_next, no_other_head}
use Rattle.zh_journal.proofs.record.find_page.Goals as goal

pub returns-in_default-clause-call : goal.returns-in_default-clause-call
returns-in_default-clause-call g c =
    let b = (g.D.Disk.history c.args.disk.now).trail.now.bytes in
    let p = c.loop-passed.page in
    handed refl
    (λ h by. asks_more (λ so_far says. record {
      found = λ rs j reads low.
          let here = frames_cut c.args.base b p j c.loop-passed._passed rs (omega arith) (so_far.1 rs j reads (omega arith)) in
          let room = frames_room c.args.base b p j here.0 (drop (c.loop-passed._passed + 1) rs) here.2 in
          absurd (no_other_head c.args.base b p j (1024 - p) here.0 (drop (c.loop-passed._passed + 1) rs) here.2 (omega (arith, reads.1.0, room)) c.in_ok-len.field-0 says c.in_default.not-Record);
      stands = λ low. absurd (omega (arith, low));
    }) by.1 by.2)
    (followed refl c.loop-passed.invariant.so_far c.in_ok-len.ensures.call)

pub loop-passed-preserved : goal.loop-passed-preserved
loop-passed-preserved g c =
    let b = (g.D.Disk.history c.args.disk.now).trail.now.bytes in
    let p = c.loop-passed.page in
    let takes : TakesAtMost (1024 - p) (Record c.in-Record.len) = subst (TakesAtMost (1024 - p)) c.in-Record.is c.in_ok-len.ensures.pages in
    record {
      inside = omega (arith, takes);
      so_far = handed refl
          (λ h by. asks_more (λ so_far said.
          let says : Heads b (c.args.base + 256 * p) (1024 - p) (Record c.in-Record.len) = subst (Heads b (c.args.base + 256 * p) (1024 - p)) c.in-Record.is said in
          let more = found_more c.args.base b p c.in-Record.len c.loop-passed._passed says.0 says.1 so_far.0 in (
            (more.0, subst (λ (n : ℕ). Frames c.args.base b 0 more.0 (p + n)) (sym c.pages_of-page.ensures) more.1, more.2),
            λ rs j reads low.
                let here = frames_cut c.args.base b p j c.loop-passed._passed rs (omega arith) (so_far.1 rs j reads (omega arith)) in
                subst (λ (n : ℕ). Frames c.args.base b (p + n) (drop (c.loop-passed._passed + 1) rs) j) (sym c.pages_of-page.ensures)
                (frames_next c.args.base b p j (1024 - p) c.in-Record.len here.0 (drop (c.loop-passed._passed + 1) rs) here.2 says),
          )) by.1 by.2)
          (followed refl c.loop-passed.invariant.so_far c.in_ok-len.ensures.call);
    }

pub returns-then-page-eq-AREA_PAGES-clause-call : goal.returns-then-page-eq-AREA_PAGES-clause-call
returns-then-page-eq-AREA_PAGES-clause-call g c =
    let b = (g.D.Disk.history c.args.disk.now).trail.now.bytes in
    let p = c.loop-passed.page in
    handed refl
    (λ h by. asks_so (λ so_far. record {
      found = λ rs j reads low.
          let here = frames_cut c.args.base b p j c.loop-passed._passed rs (omega arith) (so_far.1 rs j reads (omega arith)) in
          let room = frames_room c.args.base b p j here.0 (drop (c.loop-passed._passed + 1) rs) here.2 in
          absurd (omega (arith, room, reads.1.0));
      stands = λ low. absurd (omega (arith, low));
    }) by)
    c.loop-passed.invariant.so_far

pub returns-after-loop-passed-clause-call : goal.returns-after-loop-passed-clause-call
returns-after-loop-passed-clause-call g c =
    let b = (g.D.Disk.history c.args.disk.now).trail.now.bytes in
    let all : c.loop-passed._passed ≡ c.args.i = omega (arith, c.loop-passed-test.false) in
    handed refl
    (λ h by. asks_so (λ so_far. record {
      found = λ rs j reads low. subst (λ (n : ℕ). Frames c.args.base b c.loop-passed.page (drop n rs) j) all (so_far.1 rs j reads (omega (arith, low, all)));
      stands = λ low. (so_far.0.0, so_far.0.1, omega (arith, so_far.0.2, all));
    }) by)
    c.loop-passed.invariant.so_far
