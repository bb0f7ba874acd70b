use Rattle.std.proofs.Common.{◌∙◌, sym}
use Rattle.std.proofs.lemmas.List.{length-map}
use Rattle.std.proofs.lemmas.Result.{err_from_is_err_and}
use Rattle.zh_sheet.specs.Distribution.{HaveSeats}
use Rattle.zh_sheet.specs.Stages.{StandAbove}
use Rattle.zh_sheet.proofs.AskedLemmas.{each_seated}
use Rattle.zh_sheet.proofs.DistributionLemmas.{seats_refused, upper_given, upper_refused}
use Rattle.zh_sheet.proofs.RefusalLemmas.{no_memory_above, not_above, seats_early, upper_early}
use Rattle.zh_sheet.proofs.TargetLemmas.{IsBasis}
use Rattle.zh_sheet.proofs.above.seats_above.Goals as goal

pub returns-in_err-seats : goal.returns-in_err-seats
returns-in_err-seats c =
    let p = err_from_is_err_and c.from_residual.result c.from_residual.ensures.1 in
    let tied = rw c.setup-setup.ensures.setup at c.in_err-seats.ensures.tied in
    let without = rw c.setup-setup.ensures.setup at c.in_err-seats.ensures.no_seat in
    rw (p.1, p.2) (not_above (StandAbove c.args.totals.now) c.args.totals.now _ (seats_early _) (seats_refused c.args.totals.now _ tied without))

pub voters-requires-clause-each_seated : goal.voters-requires-clause-each_seated
voters-requires-clause-each_seated c =
    let fit = rw c.setup-setup.ensures.setup at c.in_ok-seats.ensures.seats in
    let have : HaveSeats c.args.totals.now c.in_ok-seats.seats.seats = record { in_proportion = fit; each = c.in_ok-seats.ensures.each } in
    rw c.seats-3.ensures (each_seated c.args.totals.now c.in_ok-seats.seats.seats have)

pub returns-in_err-upper : goal.returns-in_err-upper
returns-in_err-upper c =
    let fit = rw c.setup-setup.ensures.setup at c.in_ok-seats.ensures.seats in
    let have : HaveSeats c.args.totals.now c.in_ok-seats.seats.seats = record { in_proportion = fit; each = c.in_ok-seats.ensures.each } in
    let sums = rw c.seats-3.ensures at c.in_ok-voters.ensures.sums in
    let basis : IsBasis c.args.totals.now c.in_ok-seats.seats.seats c.in_ok-taking.taking.items c.in_ok-voters.voters.items
    = record { constituencies = have; participation = c.in_ok-taking.ensures; sums = sums } in
    let refused = rw (c.deref.ensures.value, c.deref-2.ensures.value, c.house.ensures.house, c.setup-setup.ensures.setup) at c.in_err-upper.ensures.refused in
    let p = err_from_is_err_and c.from_residual-in_err-upper.result c.from_residual-in_err-upper.ensures.1 in
    rw (p.1, p.2)
    (not_above (StandAbove c.args.totals.now) c.args.totals.now _ (upper_early _)
    (upper_refused c.args.totals.now c.in_ok-seats.seats.seats c.in_ok-taking.taking.items c.in_ok-voters.voters.items basis _ refused))

pub returns : goal.returns
returns c =
    let fit = rw c.setup-setup.ensures.setup at c.in_ok-seats.ensures.seats in
    let have : HaveSeats c.args.totals.now c.in_ok-seats.seats.seats = record { in_proportion = fit; each = c.in_ok-seats.ensures.each } in
    let sums = rw c.seats-3.ensures at c.in_ok-voters.ensures.sums in
    let basis : IsBasis c.args.totals.now c.in_ok-seats.seats.seats c.in_ok-taking.taking.items c.in_ok-voters.voters.items
    = record { constituencies = have; participation = c.in_ok-taking.ensures; sums = sums } in
    let refused = rw (c.deref.ensures.value, c.deref-2.ensures.value, c.house.ensures.house, c.setup-setup.ensures.setup) at c.in_ok-upper.ensures.refused in
    record {
      given = record {
        constituencies = have;
        seats_key = rw c.setup-setup.ensures.setup at c.in_ok-seats.ensures.divisor;
        participation = c.in_ok-taking.ensures;
        sums = sums;
        groups = rw (c.deref.ensures.value, c.deref-2.ensures.value, c.house.ensures.house, c.setup-setup.ensures.setup) at c.in_ok-upper.ensures.seats;
        upper_key = rw (c.deref.ensures.value, c.deref-2.ensures.value) at c.in_ok-upper.ensures.divisor;
        none = upper_given c.args.totals.now c.in_ok-seats.seats.seats c.in_ok-taking.taking.items c.in_ok-voters.voters.items basis c.in_ok-upper.upper refused;
      };
      refused = tt;
      early = tt;
    }

pub returns-in_err-taking : goal.returns-in_err-taking
returns-in_err-taking c =
    let p = err_from_is_err_and c.from_residual-in_err-taking.result c.from_residual-in_err-taking.ensures.1 in
    rw (p.1, p.2) (no_memory_above (StandAbove c.args.totals.now) c.args.totals.now)

pub returns-in_err-voters : goal.returns-in_err-voters
returns-in_err-voters c =
    let p = err_from_is_err_and c.from_residual-in_err-voters.result c.from_residual-in_err-voters.ensures.1 in
    rw (p.1, p.2) (no_memory_above (StandAbove c.args.totals.now) c.args.totals.now)

pub voters-requires-clause-one_each : goal.voters-requires-clause-one_each
voters-requires-clause-one_each c =
    rw (c.seats-3.ensures, ← c.setup-setup.ensures.setup) (c.in_ok-seats.ensures.seats.one_each ∙ length-map c.setup-setup.result.now.constituencies (λ x. x.persons))

pub upper-requires-clause-one_each : goal.upper-requires-clause-one_each
upper-requires-clause-one_each c = rw (c.deref.ensures.value, c.deref-2.ensures.value) (c.in_ok-taking.ensures.one_each ∙ sym c.in_ok-voters.ensures.sums.one_each)

pub upper-requires-clause-at_most_32 : goal.upper-requires-clause-at_most_32
upper-requires-clause-at_most_32 c = rw (c.deref.ensures.value, c.in_ok-voters.ensures.sums.one_each) c.setup-setup.ensures.limits.canton.groups.1

pub upper-requires-clause-each_small : goal.upper-requires-clause-each_small
upper-requires-clause-each_small c = rw c.deref.ensures.value c.in_ok-voters.ensures.small

pub upper-requires-clause-at_least_one : goal.upper-requires-clause-at_least_one
upper-requires-clause-at_least_one c = rw c.house.ensures.house c.house.ensures.limits.house.0

pub upper-requires-clause-at_most_400 : goal.upper-requires-clause-at_most_400
upper-requires-clause-at_most_400 c = rw c.house.ensures.house c.house.ensures.limits.house.1
