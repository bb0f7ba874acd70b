use Rattle.std.proofs.Common.{◌≤◌, ◌^◌, ◌∙◌, ap, arith, length}
use Rattle.zh_upper.specs.UpperSeats.{of_participants}
use Rattle.zh_upper.specs.declared.fault.UpperRefusal.TheVariants.{NoVoters}
use Rattle.zh_upper.proofs.ClaimLemmas.{some_positive}
use Rattle.zh_upper.proofs.ParticipantLemmas.{All-of_participants, length-of_participants, length-of_participants-le}
use Rattle.zh_upper.proofs.ranges.upper_ranges.Goals as goal

pub ranges_of-requires-clause-positive : goal.ranges_of-requires-clause-positive
ranges_of-requires-clause-positive c =
    rw (c.deref.ensures.value, c.in_ok-sums.ensures)
    (some_positive (of_participants c.args.voters.now c.args.taking.now) (c.requires.tied.first NoVoters (omega arith)))

pub ranges_of-requires-clause-at_most_32 : goal.ranges_of-requires-clause-at_most_32
ranges_of-requires-clause-at_most_32 c =
    let fewer = length-of_participants-le c.args.voters.now c.args.taking.now in
    rw (c.deref.ensures.value, c.in_ok-sums.ensures) (omega (arith, fewer, c.requires.at_most_32))

pub ranges_of-requires-clause-each_small : goal.ranges_of-requires-clause-each_small
ranges_of-requires-clause-each_small c =
    rw (c.deref.ensures.value, c.in_ok-sums.ensures) (All-of_participants (λ v. v ≤ 10 ^ 14) c.args.voters.now c.args.taking.now c.requires.each_small)

pub spread-requires : goal.spread-requires
spread-requires c =
    let sums = ap length (c.deref.ensures.value ∙ c.in_ok-sums.ensures) in
    ap length c.deref-2.ensures.value ∙ c.in_ok-ranges.ensures.one_least_each ∙ sums ∙ length-of_participants c.args.voters.now c.args.taking.now c.requires.one_each

pub spread-requires-2 : goal.spread-requires-2
spread-requires-2 c =
    let sums = ap length (c.deref.ensures.value ∙ c.in_ok-sums.ensures) in
    ap length c.deref-3.ensures.value ∙ c.in_ok-ranges.ensures.one_most_each ∙ sums ∙ length-of_participants c.args.voters.now c.args.taking.now c.requires.one_each
