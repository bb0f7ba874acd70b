use Rattle.std.proofs.Common.{◌≤◌, ◌^◌}
use Rattle.std.proofs.lemmas.List.Elements.{All-push}
use Rattle.zh_totals.specs.Totals.{votes_in}
use Rattle.zh_sheet.proofs.SeatedLemmas.{put_all, put_more}
use Rattle.zh_sheet.proofs.list_question.push_votes.Goals as goal

pub votes-requires-clause-group_from_one : goal.votes-requires-clause-group_from_one
votes-requires-clause-group_from_one c = (c.requires.seated c.loop-group.group-index 0 c.loop-group-test.true).0

pub votes-requires-clause-group_there : goal.votes-requires-clause-group_there
votes-requires-clause-group_there c = (c.requires.seated c.loop-group.group-index 0 c.loop-group-test.true).1

pub loop-group-preserved : goal.loop-group-preserved
loop-group-preserved c = record {
  votes = put_more (votes_in c.args.totals.now c.args.constituency) c.args.votes.now.items c.loop-group.votes.items c.push.new.self.items c.args.seated.now
      c.loop-group.group-index c.votes.result c.loop-group-test.true c.loop-group.invariant.votes c.votes.ensures.votes c.in_ok-push.ensures.items;
  small = rw c.in_ok-push.ensures.items (All-push (λ v. v ≤ 10 ^ 14) c.loop-group.votes.items c.votes.result c.loop-group.invariant.small c.votes.ensures.most);
}

pub returns-clause-votes : goal.returns-clause-votes
returns-clause-votes c =
    put_all (votes_in c.args.totals.now c.args.constituency) c.args.votes.now.items c.loop-group.votes.items c.args.seated.now c.loop-group.group-index
    c.loop-group-test.false c.loop-group.invariant.votes

pub returns-clause-small : goal.returns-clause-small
returns-clause-small c = c.loop-group.invariant.small
