use Rattle.std.proofs.Common.{◌≡◌, ◌≤◌, ◌+◌, ◌-◌, ◌∙◌, ℕ, List, length, length-set, set, slice_index, ap, sym, subst, arith}
use Rattle.std.proofs.lemmas.Grind.{common_steps}
use Rattle.zh_totals.specs.Inside.{totals_in, AreConstituencies}
use Rattle.std.specs.Vec.{with_items}
use Rattle.std.proofs.lemmas.List.{with_items_is}
use Rattle.zh_totals.specs.Changes.{IsChange}
use Rattle.zh_totals.specs.Totals.{VoteTotals, AreTotals, place_in, votes_in}
use Rattle.zh_totals.proofs.TotalsLemmas.{group_most, fields_noted, constituency_kept}
use Rattle.zh_totals.proofs.totals.Totals.note.Goals as goal

pub replace-requires-clause-most : goal.replace-requires-clause-most
replace-requires-clause-most c =
    let totals = totals_in c.self.inside in
    let change = c.args.change.now in
    let is : IsChange totals change = subst (λ (t : VoteTotals). IsChange t change) (sym c.self.view_is) c.requires in
    let place_is = c.place-place.ensures.place ∙ ap (λ (t : VoteTotals). place_in t.canton change.constituency change.list) (sym c.self.view_is) in
    let here : slice_index c.deref_mut.result.now c.place-place.result ≡ votes_in totals change.constituency change.list =
    ap (λ (votes : List ℕ). slice_index votes c.place-place.result) c.deref_mut.ensures.value ∙ ap (slice_index totals.votes) place_is in
    let most = group_most totals change.constituency change.list c.self.invariant.totals is.constituency.0 is.constituency.1 is.list.0 is.list.1 in
    omega arith

pub replace-requires-2-clause-before : goal.replace-requires-2-clause-before
replace-requires-2-clause-before c =
    let change = c.args.change.now in
    let is : IsChange (totals_in c.self.inside) change = subst (λ (t : VoteTotals). IsChange t change) (sym c.self.view_is) c.requires in
    subst (λ (sums : List ℕ). change.before ≤ slice_index sums (change.constituency - 1)) (sym c.deref_mut-2.ensures.value) (
    (constituency_kept (totals_in c.self.inside) c.self.inside.constituencies.items change c.self.invariant.totals c.self.invariant.constituencies is).0)

pub replace-requires-2-clause-most : goal.replace-requires-2-clause-most
replace-requires-2-clause-most c =
    let change = c.args.change.now in
    let is : IsChange (totals_in c.self.inside) change = subst (λ (t : VoteTotals). IsChange t change) (sym c.self.view_is) c.requires in
    subst (λ (sums : List ℕ). slice_index sums (change.constituency - 1) ≤ 100000000000000) (sym c.deref_mut-2.ensures.value) (
    (constituency_kept (totals_in c.self.inside) c.self.inside.constituencies.items change c.self.invariant.totals c.self.invariant.constituencies is).1)

pub invariant_of-self : goal.invariant_of-self
invariant_of-self c =
    let totals = totals_in c.self.inside in
    let change = c.args.change.now in
    let place = c.place-place.result in
    let at = change.constituency - 1 in
    let is : IsChange totals change = subst (λ (t : VoteTotals). IsChange t change) (sym c.self.view_is) c.requires in
    let place_is = c.place-place.ensures.place ∙ ap (λ (t : VoteTotals). place_in t.canton change.constituency change.list) (sym c.self.view_is) in
    let votes = c.replace.new.sums in
    let sums = c.replace-2.new.sums in
    let votes_are = c.replace.ensures ∙ ap (λ (votes : List ℕ). set votes place (slice_index votes place - change.before + change.after)) c.deref_mut.ensures.value in
    let sums_are = c.replace-2.ensures ∙ ap (λ (sums : List ℕ). set sums at (slice_index sums at - change.before + change.after)) c.deref_mut-2.ensures.value in
    let fields = fields_noted totals c.self.inside.constituencies.items change place votes sums c.self.invariant.totals c.self.invariant.constituencies is place_is votes_are sums_are in
    let new_votes = with_items_is c.self.inside.votes votes
    (ap length votes_are ∙ length-set totals.votes place (slice_index totals.votes place - change.before + change.after)
    ∙ sym c.self.inside.votes.ok.0) in
    let new_sums = with_items_is c.self.inside.constituencies sums
    (ap length sums_are ∙ length-set c.self.inside.constituencies.items at
    (slice_index c.self.inside.constituencies.items at - change.before + change.after) ∙ sym c.self.inside.constituencies.ok.0) in
    record {
      totals = subst (λ (n : List ℕ). AreTotals (record totals { votes = n })) (sym new_votes) fields.totals_are;
      constituencies =
          subst (λ (n : List ℕ). AreConstituencies (record totals { votes = n }) (with_items c.self.inside.constituencies sums).items) (sym new_votes) (
          subst (AreConstituencies (record totals { votes = votes })) (sym new_sums) fields.constituencies_are);
    }

pub returns : goal.returns
returns c = grind (arith, common_steps)

pub place-place-requires-clause-from_one : goal.place-place-requires-clause-from_one
place-place-requires-clause-from_one c = grind (arith, common_steps)
