use Rattle.std.proofs.Common.{◌≡◌, ◌∙◌, ◌+◌, ℕ, length, ap, arith}
use Rattle.zh_districts.specs.Canton.{Canton}
use Rattle.zh_totals.specs.Counting.{totals_of}
use Rattle.zh_totals.specs.Parts.{held_before}
use Rattle.zh_totals.proofs.RestrictingLemmas.{next_municipality}
use Rattle.zh_totals.proofs.totals.Totals.note_municipality.Goals as goal

pub returns-2 : goal.returns-2
returns-2 c =
    let tally = c.args.count.now in
    let groups : c.groups-list-end.result ≡ length tally.canton.groups = c.groups-list-end.ensures.count ∙ ap (λ (canton : Canton). length canton.groups) c.setup.ensures in
    let last : c.loop-list.list ≡ length tally.canton.groups = omega arith in
    c.note_entry.ensures ∙ ap (λ (l : ℕ). totals_of (held_before tally c.args.municipality (l + 1))) last
    ∙ ap totals_of (next_municipality tally c.args.municipality c.requires.limits)
