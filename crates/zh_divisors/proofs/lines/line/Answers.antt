use Rattle.std.proofs.Common.{◌+◌, ◌-◌, ◌*◌, ◌/◌, ◌^◌, ◌∙◌, arith, length, get_or, replicate, ap}
use Rattle.std.proofs.lemmas.List.{get_or-replicate}
use Rattle.zh_divisors.proofs.LineSeatsLemmas.{each-le-given, positive_last}
use Rattle.zh_divisors.proofs.FiniteSumLemmas.{sum_to-zero}
use Rattle.zh_divisors.proofs.LineLemmas.{line_divisor-is}
use Rattle.zh_divisors.proofs.lines.line.Goals as goal

pub give_one_by_one-last-requires-clause-empty : goal.give_one_by_one-last-requires-clause-empty
give_one_by_one-last-requires-clause-empty c =
    sum_to-zero (length c.args.votes.now) (λ k. get_or (replicate 32 0) k 0)
    (λ k kw. get_or-replicate 32 k 0 0 (omega (arith, c.requires.line.at_most_32)))

pub next_cell-next-requires : goal.next_cell-next-requires
next_cell-next-requires c = record {
  line = c.requires.line;
  room = c.give_one_by_one-last.ensures.given.room;
  each_seat = λ k kw. omega (arith, each-le-given _ _ _ _ k c.give_one_by_one-last.ensures.given kw, c.requires.at_most_400);
}

pub next_signpost-requires-clause-few : goal.next_signpost-requires-clause-few
next_signpost-requires-clause-few c = omega (arith, each-le-given _ _ _ _ _ c.give_one_by_one-last.ensures.given c.next_cell-next.ensures.within, c.requires.at_most_400)

pub last_signpost-requires-clause-few : goal.last_signpost-requires-clause-few
last_signpost-requires-clause-few c = omega (arith, each-le-given _ _ _ _ _ c.give_one_by_one-last.ensures.given c.give_one_by_one-last.ensures.last.within, c.requires.at_most_400)

pub greatest_below-greatest-requires-clause-positive : goal.greatest_below-greatest-requires-clause-positive
greatest_below-greatest-requires-clause-positive c =
    let last = c.give_one_by_one-last.ensures.last in
    omega (arith, positive_last _ _ _ _ c.requires.line last.within last.seated, c.last_signpost.ensures)

pub returns : goal.returns
returns c =
    let least_is = c.least_above-least.ensures ∙ ap (λ x. 2 * (get_or c.args.votes.now c.next_cell-next.result 0 * 10 ^ 12) / x + 1) c.next_signpost.ensures.signpost in
    let greatest_is = c.greatest_below-greatest.ensures ∙ ap (λ x. (2 * (get_or c.args.votes.now c.give_one_by_one-last.result 0 * 10 ^ 12) - 1) / x) c.last_signpost.ensures in
    c.hold.ensures
    ∙ line_divisor-is c.args.votes.now c.args.others.now c.give_one_by_one-last.new.seats c.args.target _ _ c.args.most c.least_above-least.result c.greatest_below-greatest.result
    c.requires.line c.requires.at_least_one c.give_one_by_one-last.ensures.given c.give_one_by_one-last.ensures.last c.next_cell-next.ensures least_is greatest_is
