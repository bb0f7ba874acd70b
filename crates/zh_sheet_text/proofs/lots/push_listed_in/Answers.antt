use Rattle.std.proofs.Common.{◌++◌, ◌∙◌, List, ℕ, ap}
use Rattle.zh_sheet_text.specs.Lots.{tied_list_line, range_of}
use Rattle.zh_text.proofs.CallerLemmas.{gathered-next}
use Rattle.zh_sheet_text.proofs.lots.push_listed_in.Goals as goal

pub loop-place-preserved : goal.loop-place-preserved
loop-place-preserved c =
    gathered-next (λ place. tied_list_line c.args.setup.now c.args.listed (range_of c.args.lists.now c.args.constituency place)) c.args.out.now.items c.loop-place.out.items
    c.push_listed.new.out.items c.loop-place.place c.loop-place.invariant
    (c.in_ok-push_listed.ensures ∙ ap (λ x. c.loop-place.out.items ++ tied_list_line c.args.setup.now c.args.listed x) c.range_of-list.ensures)
