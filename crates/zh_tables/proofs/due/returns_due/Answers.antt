use Rattle.std.proofs.Common.{[]}
use Rattle.zh_text.proofs.CallerLemmas.{gathered-next}
use Rattle.zh_tables.specs.Returns.{returns_within}
use Rattle.zh_tables.proofs.due.returns_due.Goals as goal

pub loop-place-preserved : goal.loop-place-preserved
loop-place-preserved c = gathered-next (returns_within c.args.setup.now c.args.part) [] c.loop-place.due.items c.push_each_within.new.due.items c.loop-place.place c.loop-place.invariant c.in_ok-push_each_within.ensures
