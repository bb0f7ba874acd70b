use Rattle.std.proofs.Common.{ap, length, arith}
use Rattle.zh_upper.proofs.VoterSumLemmas.{all_sums, no_sums, one_sum_more}
use Rattle.zh_upper.proofs.voter_sums.voters.Goals as goal

pub loop-place-init : goal.loop-place-init
loop-place-init c = no_sums c.args.totals.now c.args.seats.now c.in_ok-sums.sums.items c.in_ok-sums.ensures.items

pub loop-place-preserved : goal.loop-place-preserved
loop-place-preserved c =
    one_sum_more c.args.totals.now c.args.seats.now c.loop-place.sums.items c.push.new.self.items c.loop-place.place c.voter_sum.result
    c.loop-place.invariant c.in_ok-push.ensures.items c.voter_sum.ensures.sum c.voter_sum.ensures.small

pub returns-clause-sums : goal.returns-clause-sums
returns-clause-sums c =
    all_sums c.args.totals.now c.args.seats.now c.loop-place.sums.items c.loop-place.place c.loop-place.invariant
    (omega (arith, c.groups-groups.ensures.count, ap (λ x. length x.groups) c.setup.ensures.setup))

pub returns-clause-small : goal.returns-clause-small
returns-clause-small c = c.loop-place.invariant.small
