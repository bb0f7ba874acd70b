use Rattle.std.proofs.Common.{◌++◌, ◌+◌, ◌≡◌, ◌≤◌, ◌∙◌, List, length, length-append, ℕ, ap, arith, refl}
use Rattle.zh_text.proofs.CallerLemmas.{gathered-next, is_put}
use Rattle.zh_verdicts.specs.Reports.{safe_byte}
use Rattle.zh_verdicts.proofs.reports.push_shown.Goals as goal

pub loop-place-preserved : goal.loop-place-preserved
loop-place-preserved g c =
    let old = c.loop-place.shown.items in
    let byte = c.shown_at.result.now in
    let one : length byte ≤ 1 = c.shown_at.ensures.nameless refl in
    let new = is_put c.try_extend_from_slice-fits.result (c.try_extend_from_slice-fits.ensures.variant.1 (omega (arith, one, c.loop-place.invariant.short, c.requires.room, c.loop-place-test.true))) c.try_extend_from_slice-fits.ensures.ok in
    record {
      shown = gathered-next (safe_byte c.args.text.now) c.args.shown.now.items old c.try_extend_from_slice-fits.new.self.items c.loop-place.place
          c.loop-place.invariant.shown (new ∙ ap (λ (l : List ℕ). old ++ l) c.shown_at.ensures.shown);
      short = omega (arith, one, c.loop-place.invariant.short, ap length new, length-append old byte);
    }
