use Rattle.std.proofs.Common.{◌≡◌, ℕ, ◌+◌, ◌-◌, ◌++◌, ◌∙◌, List, ap, refl, arith}
use Rattle.zh_sheet_text.specs.Lots.{tied_group_line, range_line}
use Rattle.zh_text.proofs.CallerLemmas.{gathered-next}
use Rattle.zh_sheet_text.proofs.lots.push_groups.Goals as goal

pub loop-place-preserved : goal.loop-place-preserved
loop-place-preserved c =
    let place : c.loop-place.place + 1 - 1 ≡ c.loop-place.place = omega arith in
    let line : range_line c.args.setup.now (c.loop-place.place + 1) c.number_in-least.result c.number_in-most.result ≡ tied_group_line c.args.setup.now c.args.ranges.now (c.loop-place.place + 1)
    = rw (c.number_in-least.ensures, c.number_in-most.ensures, c.deref.ensures.value, c.deref-in-loop-place.ensures.value, place) refl in
    gathered-next (tied_group_line c.args.setup.now c.args.ranges.now) c.args.out.now.items c.loop-place.out.items c.push_range.new.out.items c.loop-place.place
    c.loop-place.invariant (c.in_ok-push_range.ensures ∙ ap (λ (l : List ℕ). c.loop-place.out.items ++ l) line)
