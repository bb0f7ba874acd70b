use Rattle.std.proofs.Common.{rules, ◌≤◌, ◌^◌, ◌∙◌, arith}
use Rattle.std.proofs.lemmas.Grind.{common_steps}
use Rattle.std.proofs.lemmas.Result.{err_from_is_err_and}
use Rattle.zh_upper.specs.declared.fault.UpperRefusal.TheVariants.{NoVoters}
use Rattle.zh_upper.proofs.RefusalLemmas.{first_refused, none_refused, shares_refused, some_group, untied}
use Rattle.zh_upper.proofs.ParticipantLemmas.{length-of_participants, length-of_participants-le, All-of_participants}
use Rattle.zh_upper.proofs.apportionment.upper.Goals as goal

pub shares_of-requires-clause-at_most_32 : goal.shares_of-requires-clause-at_most_32
shares_of-requires-clause-at_most_32 c =
    let fewer = length-of_participants-le c.args.voters.now c.args.taking.now in
    rw (c.deref-2.ensures.value, c.in_ok-sums.ensures) (omega (arith, fewer, c.requires.at_most_32))

pub shares_of-requires-clause-each_small : goal.shares_of-requires-clause-each_small
shares_of-requires-clause-each_small c =
    rw (c.deref-2.ensures.value, c.in_ok-sums.ensures) (All-of_participants (λ v. v ≤ 10 ^ 14) c.args.voters.now c.args.taking.now c.requires.each_small)

pub spread-requires : goal.spread-requires
spread-requires c =
    let fit = rw (c.deref-2.ensures.value, c.in_ok-sums.ensures) at c.in_ok-shares.ensures.seats in
    rw c.seats.ensures (fit.one_each ∙ length-of_participants c.args.voters.now c.args.taking.now c.requires.one_each)

pub returns-clause-divisor : goal.returns-clause-divisor
returns-clause-divisor c =
    rw (c.new.ensures, c.num.ensures, c.den.ensures, c.in_ok-seats.ensures.participants, c.seats.ensures)
    (rw (c.deref-2.ensures.value, c.in_ok-sums.ensures) at c.in_ok-shares.ensures.divisor)

pub returns-clause-rounds : goal.returns-clause-rounds
returns-clause-rounds c =
    rw (c.new.ensures, c.num.ensures, c.den.ensures, c.in_ok-seats.ensures.participants, c.seats.ensures)
    (rw (c.deref-2.ensures.value, c.in_ok-sums.ensures) at c.in_ok-shares.ensures.rounds)

pub returns-clause-seats : goal.returns-clause-seats
returns-clause-seats c = grind (arith, common_steps)

pub returns-in_err-shares-clause-seats : goal.returns-in_err-shares-clause-seats
returns-in_err-shares-clause-seats c = grind (arith, common_steps)

pub returns-in_err-shares-clause-divisor : goal.returns-in_err-shares-clause-divisor
returns-in_err-shares-clause-divisor c = grind (arith, common_steps)

pub shares_of-requires-clause-some_voters : goal.shares_of-requires-clause-some_voters
shares_of-requires-clause-some_voters c = grind (arith, common_steps)

pub returns-then-not-has_voters-clause-refused : goal.returns-then-not-has_voters-clause-refused
returns-then-not-has_voters-clause-refused c =
    let zeros = rw (c.deref.ensures.value, c.in_ok-sums.ensures) at c.if-not-has_voters.ensures in
    first_refused c.args.voters.now c.args.taking.now c.args.house NoVoters zeros
    (some_group c.args.voters.now c.args.taking.now c.args.house (search rules))

pub returns-in_err-shares-clause-refused : goal.returns-in_err-shares-clause-refused
returns-in_err-shares-clause-refused c =
    let some = rw (c.deref.ensures.value, c.in_ok-sums.ensures) at c.if-not-has_voters.ensures in
    let p = err_from_is_err_and c.from_residual-in_err-shares.result c.from_residual-in_err-shares.ensures.1 in
    rw (p.1, p.2) (shares_refused c.args.voters.now c.args.taking.now c.args.house some _ (rw (c.deref-2.ensures.value, c.in_ok-sums.ensures) at c.in_err-shares.ensures))

pub returns-clause-refused : goal.returns-clause-refused
returns-clause-refused c =
    let some = rw (c.deref.ensures.value, c.in_ok-sums.ensures) at c.if-not-has_voters.ensures in
    let not = rw (c.deref-2.ensures.value, c.in_ok-sums.ensures) at c.in_ok-shares.ensures.untied in
    none_refused c.args.voters.now c.args.taking.now c.args.house _ (untied c.args.voters.now c.args.taking.now c.args.house some not)
