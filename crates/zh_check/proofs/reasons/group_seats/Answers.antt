use Rattle.std.proofs.Common.{◌≤◌, ◌^◌, ◌∙◌, All, Err, length, ap, arith, subst, sym}
use Rattle.zh_check.proofs.reasons.group_seats.Goals as goal

pub upper-requires-clause-one_each : goal.upper-requires-clause-one_each
upper-requires-clause-one_each c =
    ap length c.deref-2.ensures.value
    ∙ (c.in_ok-taking.ensures.one_each ∙ (sym c.in_ok-voters.ensures.sums.one_each ∙ sym (ap length c.deref.ensures.value)))

pub upper-requires-clause-at_most_32 : goal.upper-requires-clause-at_most_32
upper-requires-clause-at_most_32 c = omega (arith, ap length c.deref.ensures.value, c.in_ok-voters.ensures.sums.one_each, c.setup-setup.ensures.limits.canton.groups.1)

pub upper-requires-clause-each_small : goal.upper-requires-clause-each_small
upper-requires-clause-each_small c = subst (λ xs. All (λ v. v ≤ 10 ^ 14) xs) (sym c.deref.ensures.value) c.in_ok-voters.ensures.small

pub upper-requires-clause-at_least_one : goal.upper-requires-clause-at_least_one
upper-requires-clause-at_least_one c = omega (arith, c.house.ensures.house, c.house.ensures.limits.house.0)

pub upper-requires-clause-at_most_400 : goal.upper-requires-clause-at_most_400
upper-requires-clause-at_most_400 c = omega (arith, c.house.ensures.house, c.house.ensures.limits.house.1)

pub returns : goal.returns
returns c =
    let refused = rw (c.deref.ensures.value, c.deref-2.ensures.value, c.house.ensures.house, c.setup-setup.ensures.setup) at c.in-Err-Refused.ensures.refused in
    record {
      refusal = c.in-Err-Refused.field-0-0;
      refused = record {
        seats = c.args.seats.now;
        constituencies = c.requires;
        taking = c.in_ok-taking.taking.items;
        participation = c.in_ok-taking.ensures;
        voters = c.in_ok-voters.voters.items;
        sums = c.in_ok-voters.ensures.sums;
        reason = refused.only c.in-Err-Refused.field-0-0 (ap Err c.in-Err-Refused.field-0-is);
      };
    }
