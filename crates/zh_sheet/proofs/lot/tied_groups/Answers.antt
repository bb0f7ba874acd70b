use Rattle.std.proofs.Common.{sym, ◌∙◌, arith}
use Rattle.std.proofs.lemmas.Grind.{get_or_default_zero}
use Rattle.std.proofs.lemmas.List.{length-map}
use Rattle.std.proofs.lemmas.Result.{IfOk-weaker}
use Rattle.zh_upper.specs.Ranges.{AreUpperRanges}
use Rattle.zh_upper.specs.declared.ranges.SeatRanges.{SeatRanges}
use Rattle.zh_upper.specs.declared.fault.UpperRefusal.TheVariants.{Tied}
use Rattle.zh_sheet.specs.Distribution.{HaveSeats}
use Rattle.zh_sheet.specs.Lots.{AreGroupRanges}
use Rattle.zh_sheet.proofs.TargetLemmas.{IsBasis, reason_above}
use Rattle.zh_sheet.proofs.lot.tied_groups.Goals as goal

pub upper_ranges-requires-clause-tied : goal.upper_ranges-requires-clause-tied
upper_ranges-requires-clause-tied c =
    let fit = rw c.setup-setup.ensures.setup at c.in-Ok.ensures.seats in
    let have : HaveSeats c.args.totals.now c.in-Ok.seats.seats = record { in_proportion = fit; each = c.in-Ok.ensures.each } in
    let sums = rw c.seats-3.ensures at c.in_ok-voters.ensures.sums in
    let basis : IsBasis c.args.totals.now c.in-Ok.seats.seats c.in_ok-taking.taking.items c.in_ok-voters.voters.items
    = record { constituencies = have; participation = c.in_ok-taking.ensures; sums = sums } in
    rw (c.deref.ensures.value, c.deref-2.ensures.value, c.house.ensures.house, c.setup-setup.ensures.setup)
    (reason_above c.args.totals.now c.in-Ok.seats.seats c.in_ok-taking.taking.items c.in_ok-voters.voters.items basis Tied c.requires)

pub returns : goal.returns
returns c =
    let fit = rw c.setup-setup.ensures.setup at c.in-Ok.ensures.seats in
    let have : HaveSeats c.args.totals.now c.in-Ok.seats.seats = record { in_proportion = fit; each = c.in-Ok.ensures.each } in
    let sums = rw c.seats-3.ensures at c.in_ok-voters.ensures.sums in
    let ranges = rw (c.deref.ensures.value, c.deref-2.ensures.value, c.house.ensures.house, c.setup-setup.ensures.setup) at c.upper_ranges.ensures in
    IfOk-weaker c.upper_ranges.result
    (λ (x : SeatRanges). AreUpperRanges c.in_ok-voters.voters.items c.in_ok-taking.taking.items c.args.totals.now.canton.house x.least.items x.most.items)
    (AreGroupRanges c.args.totals.now)
    (λ x is. record {
      seats = c.in-Ok.seats.seats;
      constituencies = have;
      taking = c.in_ok-taking.taking.items;
      participation = c.in_ok-taking.ensures;
      voters = c.in_ok-voters.voters.items;
      sums = sums;
      ranges = is;
    }) ranges

pub voters-requires-clause-one_each : goal.voters-requires-clause-one_each
voters-requires-clause-one_each c =
    let fit = rw c.setup-setup.ensures.setup at c.in-Ok.ensures.seats in
    rw c.seats-3.ensures (fit.one_each ∙ length-map c.args.totals.now.canton.constituencies (λ x. x.persons))

pub voters-requires-clause-each_seated : goal.voters-requires-clause-each_seated
voters-requires-clause-each_seated c =
    rw c.seats-3.ensures (λ k d within. rw (get_or_default_zero c.in-Ok.seats.seats k d within) (c.in-Ok.ensures.each k within))

pub upper_ranges-requires-clause-one_each : goal.upper_ranges-requires-clause-one_each
upper_ranges-requires-clause-one_each c =
    rw (c.deref.ensures.value, c.deref-2.ensures.value) (c.in_ok-taking.ensures.one_each ∙ sym c.in_ok-voters.ensures.sums.one_each)

pub upper_ranges-requires-clause-at_most_32 : goal.upper_ranges-requires-clause-at_most_32
upper_ranges-requires-clause-at_most_32 c =
    rw c.deref.ensures.value (omega (arith, c.in_ok-voters.ensures.sums.one_each, c.setup-setup.ensures.limits.canton.groups.1))

pub upper_ranges-requires-clause-each_small : goal.upper_ranges-requires-clause-each_small
upper_ranges-requires-clause-each_small c = rw c.deref.ensures.value c.in_ok-voters.ensures.small

pub upper_ranges-requires-clause-at_least_one : goal.upper_ranges-requires-clause-at_least_one
upper_ranges-requires-clause-at_least_one c = omega (arith, c.house.ensures.house, c.house.ensures.limits.house.0)

pub upper_ranges-requires-clause-at_most_400 : goal.upper_ranges-requires-clause-at_most_400
upper_ranges-requires-clause-at_most_400 c = omega (arith, c.house.ensures.house, c.house.ensures.limits.house.1)
