use Rattle.zh_matrices.specs.Asked.{asked}
use Rattle.zh_lower.proofs.SecondLemmas.{follow-false, none-for}
use Rattle.zh_lower.proofs.divisors.find_divisors.Goals as goal

pub returns-else-find_within-clause-none : goal.returns-else-find_within-clause-none
returns-else-find_within-clause-none c = follow-false c.find_within-else-find_within.result _ _
    (none-for (asked c.args.proposal.now.question.now) c.args.proposal.now.seats.now c.if-find_within.ensures.none)
    c.find_within-else-find_within.ensures.none
