use Rattle.std.proofs.Common.{◌≡◌, ℕ, ◌+◌, ◌-◌, ◌++◌, ◌∙◌, List, ap, refl, slice_index, arith}
use Rattle.zh_sheet_text.specs.Refusals.{seats_line, seats_line_of}
use Rattle.zh_text.proofs.CallerLemmas.{gathered-next}
use Rattle.zh_sheet_text.proofs.refusals.push_lists.Goals as goal

pub loop-place-preserved : goal.loop-place-preserved
loop-place-preserved c =
    let place : c.loop-place.place + 1 - 1 ≡ c.loop-place.place = omega arith in
    let line : seats_line c.args.constituency (slice_index c.groups-groups.result.now c.loop-place.place) c.seats-seats.result
    ≡ seats_line_of c.args.lists.now c.args.constituency (c.loop-place.place + 1)
    = rw (c.seats-seats.ensures, c.groups-groups.ensures.groups, place) refl in
    gathered-next (seats_line_of c.args.lists.now c.args.constituency) c.args.out.now.items c.loop-place.out.items c.push_list.new.out.items
    c.loop-place.place c.loop-place.invariant
    (c.in_ok-push_list.ensures ∙ ap (λ (l : List ℕ). c.loop-place.out.items ++ l) line)
