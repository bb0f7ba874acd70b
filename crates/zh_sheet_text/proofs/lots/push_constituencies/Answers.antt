use Rattle.zh_sheet_text.specs.Lots.{tied_constituency_line}
use Rattle.zh_text.proofs.CallerLemmas.{gathered-next}
use Rattle.zh_sheet_text.proofs.lots.push_constituencies.Goals as goal

pub loop-place-preserved : goal.loop-place-preserved
loop-place-preserved c =
    gathered-next (tied_constituency_line c.args.setup.now c.args.marks.now) c.args.out.now.items c.loop-place.out.items c.push_constituency.new.out.items c.loop-place.place
    c.loop-place.invariant c.in_ok-push_constituency.ensures
