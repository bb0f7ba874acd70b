use Rattle.std.proofs.Common.{◌≡◌, length, arith, sym}
use Rattle.std.proofs.lemmas.List.{append-nil}
use Rattle.zh_text.proofs.CallerLemmas.{gathered-next}
use Rattle.zh_tables.specs.Returns.{due_of}
use Rattle.zh_tables.proofs.due.push_each_due.Goals as goal

pub loop-place-init : goal.loop-place-init
loop-place-init c = sym (append-nil c.args.due.now.items)

pub loop-place-preserved : goal.loop-place-preserved
loop-place-preserved c = gathered-next (due_of c.args.setup.now c.args.municipality) c.args.due.now.items c.loop-place.due.items c.push_due.new.due.items c.loop-place.place c.loop-place.invariant c.in_ok-push_due.ensures

pub returns : goal.returns
returns c =
    let last : c.loop-place.place ≡ length c.args.setup.now.groups = omega (arith, c.groups-place-end.ensures.count) in
    rw last at c.loop-place.invariant
