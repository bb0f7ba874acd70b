use Rattle.std.proofs.Common.{◌≡◌, ◌∙◌, ◌+◌, ℕ, length, ap, sym, arith}
use Rattle.zh_districts.specs.Canton.{Canton}
use Rattle.zh_totals.specs.Counting.{totals_of}
use Rattle.zh_totals.specs.Parts.{held_before}
use Rattle.zh_totals.proofs.RestrictingLemmas.{before_first, after_last}
use Rattle.zh_totals.proofs.totals.Totals.note_count.Goals as goal

pub loop-municipality-init : goal.loop-municipality-init
loop-municipality-init c = c.requires ∙ sym (ap totals_of (before_first c.args.count.now c.accepted.ensures.limits))

pub returns-2 : goal.returns-2
returns-2 c =
    let tally = c.args.count.now in
    let municipalities : c.municipalities-municipality-end.result ≡ length tally.canton.municipalities =
    c.municipalities-municipality-end.ensures.count ∙ ap (λ (canton : Canton). length canton.municipalities) c.setup.ensures in
    let last : c.loop-municipality.municipality ≡ length tally.canton.municipalities = omega arith in
    c.note_municipality.ensures ∙ ap (λ (m : ℕ). totals_of (held_before tally (m + 1) 1)) last
    ∙ ap totals_of (after_last tally c.accepted.ensures.limits)
