use Rattle.zh_sheet_text.specs.Refusals.{number_if_among}
use Rattle.zh_text.proofs.CallerLemmas.{gathered-next}
use Rattle.zh_sheet_text.proofs.refusals.push_marked.Goals as goal

pub loop-place-preserved : goal.loop-place-preserved
loop-place-preserved c =
    gathered-next (number_if_among c.args.marked.now) c.args.out.now.items c.loop-place.out.items c.push_if_marked.new.out.items c.loop-place.place c.loop-place.invariant c.in_ok-push_if_marked.ensures
