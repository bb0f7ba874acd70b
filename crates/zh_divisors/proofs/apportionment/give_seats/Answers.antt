use Rattle.std.proofs.Common.{◌≡◌, arith}
use Rattle.std.proofs.lemmas.Grind.{common_steps}
use Rattle.zh_divisors.proofs.NextSeatLemmas.{IsFit-give, IsFit-none}
use Rattle.zh_divisors.proofs.apportionment.give_seats.Goals as goal

pub loop-given-preserved : goal.loop-given-preserved
loop-given-preserved c =
    IsFit-give c.args.weights.now c.loop-given.seats.items c.loop-given._given c.most_next-next.result c.index_mut.result.now
    c.loop-given.invariant (grind arith) (grind (arith, common_steps))

pub returns : goal.returns
returns c =
    let all : c.loop-given._given ≡ c.args.house = omega arith in
    rw all at c.loop-given.invariant

pub loop-given-init : goal.loop-given-init
loop-given-init c = IsFit-none c.args.weights.now c.in_ok-seats.seats.items (c.in_ok-seats.ensures.items_if_clones_equal (λ y e. e))

pub most_next-next-requires-clause-small : goal.most_next-next-requires-clause-small
most_next-next-requires-clause-small c = grind (arith, common_steps)

pub overflow_add-index_mut : goal.overflow_add-index_mut
overflow_add-index_mut c = grind (arith, common_steps)
