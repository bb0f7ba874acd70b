use Rattle.std.proofs.Common.{◌≡◌, ◌<◌, ◌*◌, ◌^◌, length, refl, arith, ◌∙◌}
use Rattle.zh_totals.specs.Totals.{VoteTotals}
use Rattle.zh_totals.specs.GivenVotes.{AreRowSums, votes_of_rows}
use Rattle.zh_totals.proofs.GivenVotesLemmas.{all_rows, given_totals, row_sums_are}
use Rattle.zh_totals.proofs.totals.Totals.from_votes.Goals as goal

pub invariant_of-result : goal.invariant_of-result
invariant_of-result c =
    let totals : VoteTotals = record { canton = c.args.setup.now; votes = c.args.votes.items } in
    let sums : AreRowSums totals.votes (length totals.canton.groups) (length totals.canton.constituencies) c.in-Some.constituencies.items
    = rw (← c.deref.ensures.value, ← c.groups-columns.ensures.count, ← c.constituencies-rows.ensures.count)
    (rw c.in-Some.is at c.in_ok-constituencies.ensures) in
    let one_each : length totals.votes ≡ length totals.canton.constituencies * length totals.canton.groups
    = rw (← c.constituencies-rows.ensures.count, ← c.groups-columns.ensures.count) (omega arith) in
    record {
      totals = given_totals totals c.in-Some.constituencies.items c.constituencies-rows.ensures.limits one_each sums;
      constituencies = row_sums_are totals c.in-Some.constituencies.items sums;
    }

pub returns : goal.returns
returns c = (refl, (invariant_of-result c).totals)

pub returns-then-len-rows : goal.returns-then-len-rows
returns-then-len-rows c = λ are.
    c.if-len-rows.true (rw (c.constituencies-rows.ensures.count, c.groups-columns.ensures.count) (c.len.ensures ∙ c.args.votes.ok.0 ∙ are.one_each))

pub returns-in_default : goal.returns-in_default
returns-in_default c = λ are.
    let totals : VoteTotals = record { canton = c.args.setup.now; votes = c.args.votes.items } in
    let more : 10 ^ 14 < votes_of_rows totals.votes (length totals.canton.groups) (length totals.canton.constituencies)
    = rw (← c.deref.ensures.value, ← c.groups-columns.ensures.count, ← c.constituencies-rows.ensures.count)
    (rw c.in_default.is at c.in_ok-constituencies.ensures) in
    omega (arith, all_rows totals, are.most, more)
