use Rattle.std.proofs.Common.{◌≡◌, ◌^◌, ◌≤◌, All, map}
use Rattle.std.specs.List.{flat_map, range_with_len}
use Rattle.zh_totals.specs.Totals.{votes_in}
use Rattle.zh_sheet.proofs.list_question.votes_of.Given as goal

abbrev pub invariant-loop-place : goal.invariant-loop-place
invariant-loop-place l = record {
  votes : l.votes.items ≡ flat_map (λ d. map (votes_in l.totals d) l.seated) (range_with_len 1 l.place);
  small : All (λ v. v ≤ 10 ^ 14) l.votes.items;
}
