use Rattle.std.proofs.Common.{◌≡◌, ◌-◌, ◌+◌, ◌*◌, arith, sym, subst, ℕ}
use Rattle.zh_journal.specs.declared.page.Head.TheVariants.{Record, Damaged}
use Rattle.zh_journal.specs.Heads.{Heads, TakesAtMost}
use Rattle.zh_journal.specs.Pages.{Frames}
use Rattle.zh_journal.proofs.HeadLemmas.{found_more, at_page}
use Rattle.zh_journal.proofs.area.extent_of.Goals as goal

pub returns-in-Damaged-clause-damaged : goal.returns-in-Damaged-clause-damaged
returns-in-Damaged-clause-damaged c = λ rs j reads.
    let b = c.args.pages.now in
    let end = c.loop-end.end in
    let place : 256 * end ≡ 0 + 256 * end = omega arith in
    let found = c.loop-end.invariant.found in
    let said : Heads b (256 * end) (1024 - end) Damaged = subst (Heads b (256 * end) (1024 - end)) c.in-Damaged.is c.head_at.ensures.head in
    let bad : Heads b (0 + 256 * end) (1024 - end) Damaged = subst (λ (at : ℕ). Heads b at (1024 - end) Damaged) place said in
    let here = at_page 0 b end j reads.1 bad.0 (omega arith) 0 found.0 rs found.1 reads.0 in
    bad.1 here.0 here.1 here.2 (omega (arith, here.3))

pub loop-end-preserved : goal.loop-end-preserved
loop-end-preserved c =
    let b = c.args.pages.now in
    let end = c.loop-end.end in
    let takes : TakesAtMost (1024 - end) (Record c.in-Record.len) = subst (TakesAtMost (1024 - end)) c.in-Record.is c.head_at.ensures.pages in
    record {
      end_in = omega (arith, takes);
      count_in = omega (arith, takes);
      found =
          let place : 256 * end ≡ 0 + 256 * end = omega arith in
          let said : Heads b (256 * end) (1024 - end) (Record c.in-Record.len) = subst (Heads b (256 * end) (1024 - end)) c.in-Record.is c.head_at.ensures.head in
          let good : Heads b (0 + 256 * end) (1024 - end) (Record c.in-Record.len) = subst (λ (at : ℕ). Heads b at (1024 - end) (Record c.in-Record.len)) place said in
          let more = found_more 0 b end c.in-Record.len c.loop-end.count good.0 good.1 c.loop-end.invariant.found in
          (more.0, subst (λ (p : ℕ). Frames 0 b 0 more.0 (end + p)) (sym c.pages_of-end.ensures) more.1, more.2);
    }
