use Rattle.std.proofs.Common.{arith}
use Rattle.zh_quorum.proofs.CantonVotesLemmas.{group_votes-within}
use Rattle.zh_quorum.proofs.canton_quorum.reaches_canton_quorum.Goals as goal

pub overflow_mul-result : goal.overflow_mul-result
overflow_mul-result c =
    omega (arith, c.group_votes-votes.ensures, group_votes-within c.args.totals.now c.args.group c.requires.from_one c.requires.there, c.setup.ensures.limits.most)
