use Rattle.std.proofs.Common.{◌≡◌, ◌++◌, ◌^◌, ◌≤◌, All, map, take}
use Rattle.zh_totals.specs.Totals.{votes_in}
use Rattle.zh_sheet.proofs.list_question.push_votes.Given as goal

abbrev pub invariant-loop-group : goal.invariant-loop-group
invariant-loop-group l = record {
  votes : l.votes.items ≡ l.initial.votes.items ++ map (votes_in l.totals l.constituency) (take l.group-index l.seated);
  small : All (λ v. v ≤ 10 ^ 14) l.votes.items;
}
