-- The sums of totals, and what a change does to them.
use Rattle.std.proofs.Common.{◌≡◌, ◌≢◌, ◌∙◌, ℕ, ◌+◌, ◌-◌, ◌*◌, ◌^◌, ◌≤◌, List, length, get_or, set, slice_index, inl, inr, sym, ap, subst, arith, length-set, get_or-set_same, get_or-set_other}
use Rattle.zh_totals.specs.declared.totals.Change.{Change}
use Rattle.zh_totals.specs.Totals.{VoteTotals, AreTotals, place_in, votes_in, constituency_votes, all_votes}
use Rattle.zh_totals.specs.Changes.{IsChange, noted, sum_after}
use Rattle.std.proofs.lemmas.Bool.{cases_eq}
use Rattle.zh_totals.specs.Inside.{AreConstituencies}
use Rattle.zh_divisors.proofs.CallerLemmas.{cell-within, same_place, sum_to-changed, sum_to-ext, term-le-sum_to}

-- a group has no more votes in a constituency than all groups
pub group_within : (totals : VoteTotals) (d g : ℕ) → 1 ≤ g → g ≤ length totals.canton.groups → votes_in totals d g ≤ constituency_votes totals d
group_within totals d g from_one there =
    let number : g - 1 + 1 ≡ g = omega arith in
    let here : votes_in totals d (g - 1 + 1) ≡ votes_in totals d g = ap (votes_in totals d) number in
    omega (arith, term-le-sum_to (length totals.canton.groups) (λ i. votes_in totals d (i + 1)) (g - 1) (omega arith))

-- a constituency has no more votes than all constituencies
pub constituency_within : (totals : VoteTotals) (d : ℕ) → 1 ≤ d → d ≤ length totals.canton.constituencies → constituency_votes totals d ≤ all_votes totals
constituency_within totals d from_one there =
    let number : d - 1 + 1 ≡ d = omega arith in
    let here : constituency_votes totals (d - 1 + 1) ≡ constituency_votes totals d = ap (constituency_votes totals) number in
    omega (arith, term-le-sum_to (length totals.canton.constituencies) (λ i. constituency_votes totals (i + 1)) (d - 1) (omega arith))

-- so neither has more than 10^14
pub constituency_most : (totals : VoteTotals) (d : ℕ) → AreTotals totals → 1 ≤ d → d ≤ length totals.canton.constituencies → constituency_votes totals d ≤ 10 ^ 14
constituency_most totals d are from_one there = omega (arith, constituency_within totals d from_one there, are.most)

pub group_most : (totals : VoteTotals) (d g : ℕ) → AreTotals totals → 1 ≤ d → d ≤ length totals.canton.constituencies → 1 ≤ g → g ≤ length totals.canton.groups → votes_in totals d g ≤ 10 ^ 14
group_most totals d g are from_one there group_from_one group_there = omega (arith, group_within totals d g group_from_one group_there, constituency_most totals d are from_one there)

-- a change whose list is in the set-up, and whose votes before it are within their sum
pub record CanNote (totals : VoteTotals) (change : Change) : Type 0 where
  pub one_each : length totals.votes ≡ length totals.canton.constituencies * length totals.canton.groups
  pub constituency : (1 ≤ change.constituency) × (change.constituency ≤ length totals.canton.constituencies)
  pub list : (1 ≤ change.list) × (change.list ≤ length totals.canton.groups)
  pub before : change.before ≤ votes_in totals change.constituency change.list

pub can_note : (totals : VoteTotals) (change : Change) → AreTotals totals → IsChange totals change → CanNote totals change
can_note totals change are is = record { one_each = are.one_each; constituency = is.constituency; list = is.list; before = is.before }

-- the sum of the change, afterwards
pub noted_here : (totals : VoteTotals) (change : Change) → CanNote totals change → votes_in (noted totals change) change.constituency change.list ≡ sum_after totals change
noted_here totals change can =
    let place = place_in totals.canton change.constituency change.list in
    let inside = cell-within (length totals.canton.constituencies) (length totals.canton.groups) (change.constituency - 1) (change.list - 1) (omega arith) (omega arith) in
    get_or-set_same totals.votes place (sum_after totals change) 0 (omega arith)

-- another sum, afterwards
noted_there : (totals : VoteTotals) (change : Change) (d g : ℕ) → place_in totals.canton d g ≢ place_in totals.canton change.constituency
    change.list → votes_in (noted totals change) d g ≡ votes_in totals d g
noted_there totals change d g other = get_or-set_other totals.votes (place_in totals.canton change.constituency change.list) (place_in totals.canton d g) (sum_after totals change) 0 other

-- the votes of the change's constituency, afterwards
pub noted_constituency : (totals : VoteTotals) (change : Change) → CanNote totals change →
    constituency_votes (noted totals change) change.constituency + change.before ≡ constituency_votes totals change.constituency + change.after
noted_constituency totals change can =
    let d = change.constituency in
    let number : change.list - 1 + 1 ≡ change.list = omega arith in
    let old : votes_in totals d (change.list - 1 + 1) ≡ votes_in totals d change.list = ap (votes_in totals d) number in
    let new : votes_in (noted totals change) d (change.list - 1 + 1) ≡ sum_after totals change = ap (votes_in (noted totals change) d) number ∙ noted_here totals change can in
    let sums = sum_to-changed (length totals.canton.groups) (λ i. votes_in totals d (i + 1))
    (λ i. votes_in (noted totals change) d (i + 1)) (change.list - 1) (omega arith)
    (λ i lt other. sym (noted_there totals change d (i + 1) (λ same. other (omega arith)))) in
    omega arith

-- the votes of another constituency, afterwards
pub noted_elsewhere : (totals : VoteTotals) (change : Change) (d : ℕ) → CanNote totals change → 1 ≤ d → d ≢ change.constituency
    → constituency_votes (noted totals change) d ≡ constituency_votes totals d
noted_elsewhere totals change d can from_one other =
    sum_to-ext (length totals.canton.groups) (λ i. votes_in (noted totals change) d (i + 1)) (λ i. votes_in totals d (i + 1)) (λ i lt.
    noted_there totals change d (i + 1) (λ same.
    let parts = same_place (length totals.canton.groups) (d - 1) (i + 1 - 1) (change.constituency - 1) (change.list - 1) (omega arith) (omega arith) same in
    other (omega arith)))

-- all votes together, afterwards
pub noted_all : (totals : VoteTotals) (change : Change) → CanNote totals change → all_votes (noted totals change) + change.before ≡ all_votes totals + change.after
noted_all totals change can =
    let number : change.constituency - 1 + 1 ≡ change.constituency = omega arith in
    let old : constituency_votes totals (change.constituency - 1 + 1) ≡ constituency_votes totals change.constituency = ap (constituency_votes totals) number in
    let new : constituency_votes (noted totals change) (change.constituency - 1 + 1) ≡ constituency_votes (noted totals change)
    change.constituency = ap (constituency_votes (noted totals change)) number in
    let here = noted_constituency totals change can in
    let sums = sum_to-changed (length totals.canton.constituencies) (λ i. constituency_votes totals (i + 1))
    (λ i. constituency_votes (noted totals change) (i + 1)) (change.constituency - 1) (omega arith)
    (λ i lt other. sym (noted_elsewhere totals change (i + 1) can (omega arith) (omega arith))) in
    omega arith

-- totals within their limits stay within them after a change that they can take
pub AreTotals-noted : (totals : VoteTotals) (change : Change) → AreTotals totals → IsChange totals change → AreTotals (noted totals change)
AreTotals-noted totals change are is = record {
  canton = are.canton;
  one_each = length-set totals.votes (place_in totals.canton change.constituency change.list) (sum_after totals change) ∙ are.one_each;
  most = is.most;
}

-- the stored votes of a constituency
pub constituency_at : (totals : VoteTotals) (sums : List ℕ) (d : ℕ) → AreConstituencies totals sums → 1 ≤ d
    → d ≤ length totals.canton.constituencies → slice_index sums (d - 1) ≡ constituency_votes totals d
constituency_at totals sums d are from_one there =
    let number : d - 1 + 1 ≡ d = omega arith in
    are.votes (d - 1) (omega arith) ∙ ap (constituency_votes totals) number

-- the stored votes of the change's constituency change like its sum
pub AreConstituencies-noted : (totals : VoteTotals) (sums : List ℕ) (change : Change) → AreConstituencies totals sums → CanNote totals change →
    AreConstituencies (noted totals change) (set sums (change.constituency - 1) (slice_index sums (change.constituency - 1) - change.before + change.after))
AreConstituencies-noted totals sums change are can =
    let at = change.constituency - 1 in
    let d = change.constituency in
    let value = slice_index sums at - change.before + change.after in
    record {
      one_each = length-set sums at value ∙ are.one_each;
      votes = λ i within. elim (cases_eq i at) [
        | inl here ↦
            let number : i + 1 ≡ d = omega arith in
            let old = constituency_at totals sums d are can.constituency.0 can.constituency.1 in
            let group = group_within totals d change.list can.list.0 can.list.1 in
            let before = can.before in
            let sum : value ≡ constituency_votes (noted totals change) d = let new = noted_constituency totals change can in omega arith in
            ap (λ n. get_or (set sums at value) n 0) here
            ∙ get_or-set_same sums at value 0 (omega (arith, are.one_each))
            ∙ sum ∙ sym (ap (constituency_votes (noted totals change)) number)
        | inr elsewhere ↦
            get_or-set_other sums at i value 0 elsewhere
            ∙ are.votes i within
            ∙ sym (noted_elsewhere totals change (i + 1) can (omega arith) (λ same. elsewhere (omega arith)))
      ];
    }

-- the fields after a change that they can take
pub record AreNoted (totals : VoteTotals) (sums : List ℕ) : Type 0 where
  pub totals_are : AreTotals totals
  pub constituencies_are : AreConstituencies totals sums

pub fields_noted : (totals : VoteTotals) (sums : List ℕ) (change : Change) (place : ℕ) (votes constituencies : List ℕ) → AreTotals totals → AreConstituencies totals sums → IsChange totals change →
    place ≡ place_in totals.canton change.constituency change.list →
    votes ≡ set totals.votes place (slice_index totals.votes place - change.before + change.after) →
    constituencies ≡ set sums (change.constituency - 1) (slice_index sums (change.constituency - 1) - change.before + change.after) →
    AreNoted (record totals { votes = votes }) constituencies
fields_noted totals sums change place votes constituencies are kept is place_is votes_are constituencies_are =
    let whole : votes ≡ (noted totals change).votes = votes_are ∙ ap (λ (p : ℕ). set totals.votes p (slice_index totals.votes p - change.before + change.after)) place_is in
    subst (λ (n : List ℕ). AreNoted (record totals { votes = n }) constituencies) (sym whole) (
    subst (AreNoted (noted totals change)) (sym constituencies_are) (record {
      totals_are = AreTotals-noted totals change are is;
      constituencies_are = AreConstituencies-noted totals sums change kept (can_note totals change are is);
    }))

-- the stored votes of the change's constituency include those before it and are at most 10^14
pub constituency_kept : (totals : VoteTotals) (sums : List ℕ) (change : Change) → AreTotals totals → AreConstituencies totals sums → IsChange totals change →
    (change.before ≤ slice_index sums (change.constituency - 1)) × (slice_index sums (change.constituency - 1) ≤ 10 ^ 14)
constituency_kept totals sums change are kept is =
    let at = constituency_at totals sums change.constituency kept is.constituency.0 is.constituency.1 in
    let group = group_within totals change.constituency change.list is.list.0 is.list.1 in
    let most = constituency_most totals change.constituency are is.constituency.0 is.constituency.1 in
    let before = is.before in
    (omega arith, omega arith)
