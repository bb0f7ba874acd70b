use Rattle.std.proofs.Common.{◌≡◌, ◌+◌, ◌∙◌, List, ℕ, length, ap, sym, subst, inl, inr}
use Rattle.std.specs.Option.{option_map}
use Rattle.std.proofs.lemmas.Result.{IfOk-weaker}
use Rattle.zh_sheet.specs.Distribution.{HaveSeats}
use Rattle.zh_totals.specs.GivenVotes.{AreTotalsOf}
use Rattle.zh_totals.specs.Totals.{AreTotals, VoteTotals}
use Rattle.zh_check.specs.Reading.{lines_above, totals_read}
use Rattle.zh_check.specs.Totals.{AreGroupSeats, FindsGroupSeats, FindsOffAmong, FindsOffTotal, HaveNoGroupSeats, group_sum}
use Rattle.zh_check.proofs.TotalLemmas.{groups_found}
use Rattle.zh_check.proofs.reasons.first_off_group_by_votes.Goals as goal

pub first_off_group-requires-clause-totals : goal.first_off_group-requires-clause-totals
first_off_group-requires-clause-totals c =
    let given : VoteTotals = record { canton = c.args.setup.now; votes = c.args.votes.items } in
    let totals = subst (λ t. AreTotalsOf given t) c.in-Some.is c.in_ok-totals.ensures in
    let found = subst (λ f. FindsGroupSeats c.in-Some.totals c.args.rows.now (option_map (λ u. u.items) f)) c.in-Some-2.is c.in_ok-columns.ensures in
    ap length c.deref.ensures.value
    ∙ (found.groups.one_each ∙ (found.sums.one_each ∙ ap (λ (t : VoteTotals). length t.canton.groups) totals.0))

pub group_seats-requires : goal.group_seats-requires
group_seats-requires c =
    let given : VoteTotals = record { canton = c.args.setup.now; votes = c.args.votes.items } in
    let totals = subst (λ t. AreTotalsOf given t) c.in-Some.is c.in_ok-totals.ensures in
    let seated : HaveSeats given c.args.rows.now = record { in_proportion = c.requires.rows.in_proportion; each = c.requires.rows.each } in
    subst (λ t. HaveSeats t c.args.rows.now) (sym totals.0) seated

pub returns-in_default : goal.returns-in_default
returns-in_default c =
    let canton = c.args.setup.now in
    let text : List ℕ = c.args.text.now in
    let given : VoteTotals = record { canton = canton; votes = c.args.votes.items } in
    let read : given ≡ totals_read canton text = ap (λ v. record { canton = canton; votes = v }) c.requires.votes in
    inr (record {
      seats = c.args.rows.now;
      follow = c.requires.rows;
      met = c.requires.met;
      groups = inl (subst (λ t. ¬ AreTotals t) read (subst (λ t. AreTotalsOf given t) c.in_default.is c.in_ok-totals.ensures));
    })

pub returns-in-Some-2 : goal.returns-in-Some-2
returns-in-Some-2 c =
    let canton = c.args.setup.now in
    let text : List ℕ = c.args.text.now in
    let rows : List ℕ = c.args.rows.now in
    let upper : List ℕ = c.in-Some-2.columns.items in
    let given : VoteTotals = record { canton = canton; votes = c.args.votes.items } in
    let totals = subst (λ t. AreTotalsOf given t) c.in-Some.is c.in_ok-totals.ensures in
    let read : c.in-Some.totals ≡ totals_read canton text = totals.0 ∙ ap (λ v. record { canton = canton; votes = v }) c.requires.votes in
    let found = subst (λ f. FindsGroupSeats c.in-Some.totals rows (option_map (λ u. u.items) f)) c.in-Some-2.is c.in_ok-columns.ensures in
    let groups : AreGroupSeats (totals_read canton text) rows upper = subst (λ t. AreGroupSeats t rows upper) read found in
    IfOk-weaker c.first_off_group.result
    (FindsOffAmong (group_sum canton text) c.deref.result.now text (1 + lines_above canton + length canton.constituencies))
    (FindsOffTotal canton text)
    (λ found is. groups_found canton text rows c.deref.result.now found c.requires.rows
    (subst (λ u. AreGroupSeats (totals_read canton text) rows u) (sym c.deref.ensures.value) groups) c.requires.met is)
    c.first_off_group.ensures

pub returns : goal.returns
returns c =
    let canton = c.args.setup.now in
    let text : List ℕ = c.args.text.now in
    let given : VoteTotals = record { canton = canton; votes = c.args.votes.items } in
    let totals = subst (λ t. AreTotalsOf given t) c.in-Some.is c.in_ok-totals.ensures in
    let read : c.in-Some.totals ≡ totals_read canton text = totals.0 ∙ ap (λ v. record { canton = canton; votes = v }) c.requires.votes in
    let found = subst (λ f. FindsGroupSeats c.in-Some.totals c.args.rows.now (option_map (λ u. u.items) f)) c.in-None.is c.in_ok-columns.ensures in
    inr (record {
      seats = c.args.rows.now;
      follow = c.requires.rows;
      met = c.requires.met;
      groups = inr (inl (subst (λ t. HaveNoGroupSeats t) read found));
    })
