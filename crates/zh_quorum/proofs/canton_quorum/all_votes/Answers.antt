use Rattle.std.proofs.Common.{◌<◌, length, ap, arith}
use Rattle.zh_quorum.proofs.CantonVotesLemmas.{all_votes-few}
use Rattle.zh_quorum.proofs.canton_quorum.all_votes.Goals as goal

pub overflow_add-votes : goal.overflow_add-votes
overflow_add-votes c =
    let within : c.loop-place.place < length c.args.totals.now.canton.constituencies
    = omega (arith, c.loop-place-test.true, c.constituencies-place-end.ensures.count, ap (λ s. length s.constituencies) c.setup.ensures.setup) in
    let few = all_votes-few c.args.totals.now c.loop-place.place c.loop-place.votes c.constituency-votes.result c.setup.ensures.limits within c.loop-place.invariant c.constituency-votes.ensures.votes in
    omega (arith, few)
