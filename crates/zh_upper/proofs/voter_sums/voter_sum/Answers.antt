use Rattle.std.proofs.Common.{rules, arith}
use Rattle.zh_upper.proofs.VoterSumLemmas.{voter_sum-small}
use Rattle.zh_upper.proofs.voter_sums.voter_sum.Goals as goal

pub overflow_add-voters : goal.overflow_add-voters
overflow_add-voters c =
    omega (
      arith,
      voter_sum-small c.args.totals.now c.args.seats.now c.args.group c.loop-place.place
          c.requires.limits c.requires.one_each c.requires.each_seated c.requires.from_one c.requires.there (omega arith),
    )

pub returns-clause-small : goal.returns-clause-small
returns-clause-small c =
    omega (
      arith,
      voter_sum-small c.args.totals.now c.args.seats.now c.args.group c.loop-place.place
          c.requires.limits c.requires.one_each c.requires.each_seated c.requires.from_one c.requires.there (omega arith),
    )

pub loop-place-preserved : goal.loop-place-preserved
loop-place-preserved c = search rules

pub returns-clause-sum : goal.returns-clause-sum
returns-clause-sum c = search rules
