use Rattle.std.proofs.Common.{◌<◌, length, ap, arith}
use Rattle.zh_quorum.proofs.CantonVotesLemmas.{group_votes-few}
use Rattle.zh_quorum.proofs.canton_quorum.group_votes.Goals as goal

pub overflow_add-votes : goal.overflow_add-votes
overflow_add-votes c =
    let within : c.loop-place.place < length c.args.totals.now.canton.constituencies
    = omega (arith, c.loop-place-test.true, c.constituencies-place-end.ensures.count, ap (λ s. length s.constituencies) c.setup.ensures.setup) in
    let few = group_votes-few c.args.totals.now c.args.group c.loop-place.place c.loop-place.votes c.votes-votes.result c.setup.ensures.limits c.requires.from_one c.requires.there within c.loop-place.invariant c.votes-votes.ensures.votes in
    omega (arith, few)
