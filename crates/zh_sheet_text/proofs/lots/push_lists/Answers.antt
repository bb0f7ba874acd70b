use Rattle.zh_sheet_text.specs.Lots.{lines_in}
use Rattle.zh_text.proofs.CallerLemmas.{gathered-next}
use Rattle.zh_sheet_text.proofs.lots.push_lists.Goals as goal

pub loop-place-preserved : goal.loop-place-preserved
loop-place-preserved c =
    gathered-next (lines_in c.args.setup.now c.args.listed c.args.lists.now) c.args.out.now.items c.loop-place.out.items c.push_listed_in.new.out.items c.loop-place.place
    c.loop-place.invariant c.in_ok-push_listed_in.ensures
