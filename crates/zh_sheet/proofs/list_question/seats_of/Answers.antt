use Rattle.std.proofs.Common.{◌-◌, get_or, []}
use Rattle.zh_sheet.proofs.SeatedLemmas.{put_all, put_more}
use Rattle.zh_sheet.proofs.list_question.seats_of.Goals as goal

pub seats-requires-clause-from_one : goal.seats-requires-clause-from_one
seats-requires-clause-from_one c = (c.requires c.loop-group.group-index 0 c.loop-group-test.true).0

pub seats-requires-clause-there : goal.seats-requires-clause-there
seats-requires-clause-there c = (c.requires c.loop-group.group-index 0 c.loop-group-test.true).1

pub loop-group-preserved : goal.loop-group-preserved
loop-group-preserved c =
    put_more (λ g. get_or c.args.upper.now.seats (g - 1) 0) [] c.loop-group.seats.items c.push.new.self.items c.args.seated.now c.loop-group.group-index
    c.seats.result c.loop-group-test.true c.loop-group.invariant c.seats.ensures c.in_ok-push.ensures.items

pub returns : goal.returns
returns c =
    put_all (λ g. get_or c.args.upper.now.seats (g - 1) 0) [] c.loop-group.seats.items c.args.seated.now c.loop-group.group-index
    c.loop-group-test.false c.loop-group.invariant
