-- The totals of a count are within their limits.
use Rattle.std.proofs.Common.{◌≡◌, ◌∙◌, ℕ, zero, suc, ◌+◌, ◌-◌, ◌*◌, ◌≤◌, true, List, [], ◌∷◌, length, Option, Some, None, IfSome, replicate, get_or, sym, ap, subst, refl, arith, inl, inr}
use Rattle.std.specs.Option.{option_map_or}
use Rattle.std.specs.FinMap as map_of
use Rattle.std.proofs.lemmas.Bool.Decides.{nat_tests}
use Rattle.std.proofs.lemmas.List.{get_or-replicate, length-replicate}
use Rattle.std.proofs.lemmas.List.Elements.{All-get_or}
use Rattle.std.proofs.lemmas.Option.{slice_get_cases}
use Rattle.zh_districts.specs.Canton.{Canton, Municipality, IsCanton, has_municipality, constituency_of}
use Rattle.zh_returns.specs.declared.entry.Entry.{Entry}
use Rattle.zh_returns.specs.Limits.{IsTally, IsEntry}
use Rattle.zh_returns.specs.Tally.{Tally, held, empty}
use Rattle.zh_returns.specs.Keys.{key_cmp}
use Rattle.zh_districts.proofs.CallerLemmas.{municipality_within}
use Rattle.zh_totals.specs.Totals.{AreTotals, votes_in, constituency_votes, all_votes}
use Rattle.zh_totals.specs.Counting.{votes_of, counted, totals_of, lies_in}
use Rattle.zh_totals.specs.Changes.{noted, change_to, votes_held}
use Rattle.zh_totals.specs.Parts.{held_before}
use Rattle.zh_totals.specs.Inside.{AreConstituencies}
use Rattle.zh_divisors.proofs.CallerLemmas.{cell-within, same_table, sum_to-zero}
use Rattle.zh_totals.proofs.PlaceLemmas.{table, length-table, at_table}
use Rattle.zh_totals.proofs.EntryLemmas.{passing}
use Rattle.zh_totals.proofs.NotingLemmas.{IsThere, held_counted, votes_counted, noted_entry}
use Rattle.zh_totals.proofs.RestrictingLemmas.{next_held, next_not_held, next_municipality, before_first, after_last, none_held_yet}
use Rattle.zh_totals.proofs.TotalsLemmas.{CanNote, noted_all}

pub municipality_there : (canton : Canton) (m : ℕ) → 1 ≤ m → m ≤ length canton.municipalities → has_municipality canton m ≡ true
municipality_there canton m from_one within = grind (arith, nat_tests)

-- a municipality of the set-up lies in one of its constituencies
pub key_there : (canton : Canton) (m l : ℕ) → IsCanton canton → has_municipality canton m ≡ true → 1 ≤ l → l ≤ length canton.groups → IsThere canton m l
key_there canton m l limits there from_one within =
    let number = municipality_within canton m there in
    elim (slice_get_cases canton.municipalities (m - 1)).1 [
      | inl found ↦
          let lies = All-get_or (λ (x : Municipality). (1 ≤ x.constituency) × (x.constituency ≤ length canton.constituencies)) canton.municipalities (m - 1) found.0 found.1 limits.within in
          let is : constituency_of canton m ≡ (get_or canton.municipalities (m - 1) found.0).constituency =
          ap (λ (o : Option Municipality). option_map_or (λ (x : Municipality). x.constituency) o 0) found.2 ∙ ap (λ (x : Municipality). x.constituency) (sym found.3) in
          record { constituency = (omega (arith, lies.0), omega (arith, lies.1)); list = (from_one, within) }
      | inr past ↦ absurd (omega arith)
    ]

-- the totals of a count can take the votes that are put under a key of the set-up
pub can_note_entry : (tally : Tally) (m l votes : ℕ) → IsThere tally.canton m l → CanNote (totals_of tally) (change_to tally m l votes)
can_note_entry tally m l votes there =
    let at = constituency_of tally.canton m in
    record {
      one_each = length-table (counted tally) (length tally.canton.constituencies) (length tally.canton.groups);
      constituency = there.constituency;
      list = there.list;
      before = subst (λ n. votes_held tally m l ≤ n) (sym (votes_counted tally at l there.constituency.0 there.constituency.1 there.list.0 there.list.1)) (held_counted tally m l);
    }

-- without entries there are no votes
no_entries : (es : List ((ℕ × ℕ) × Entry)) → length es ≡ 0 → es ≡ []
no_entries [] none = refl
no_entries (e ∷ es) none = absurd (omega arith)

none_counted : (canton : Canton) (d g : ℕ) → counted (empty canton) d g ≡ 0
none_counted canton d g =
    ap (passing (lies_in canton d g))
    (no_entries (map_of.entries (map_of.empty {X = Entry} {R = key_cmp}))
    (sym (map_of.len-entries (map_of.empty {X = Entry} {R = key_cmp})) ∙ map_of.len-empty key_cmp Entry))

pub no_constituency_votes : (canton : Canton) (d : ℕ) → 1 ≤ d → d ≤ length canton.constituencies → constituency_votes (totals_of (empty canton)) d ≡ 0
no_constituency_votes canton d from_one within =
    sum_to-zero (length canton.groups) (λ i. votes_in (totals_of (empty canton)) d (i + 1)) (λ i lt.
    votes_counted (empty canton) d (i + 1) from_one within (omega arith) (omega arith) ∙ none_counted canton d (i + 1))

no_votes_yet : (canton : Canton) → all_votes (totals_of (empty canton)) ≡ 0
no_votes_yet canton = sum_to-zero (length canton.constituencies) (λ i. constituency_votes (totals_of (empty canton)) (i + 1)) (λ i lt. no_constituency_votes canton (i + 1) (omega arith) (omega arith))

-- the votes of all entries before a key
abbrev votes_before : Tally → ℕ → ℕ → ℕ
votes_before tally m l = all_votes (totals_of (held_before tally m l))

entry_adds : (tally : Tally) (m l : ℕ) (entry : Entry) → IsTally tally → IsThere tally.canton m l → held tally m l ≡ Some entry → votes_before tally m (l + 1) ≡ votes_before tally m l + votes_of entry
entry_adds tally m l entry limits there is =
    let part = held_before tally m l in
    let change = change_to part m l (votes_of entry) in
    let sum = noted_all (totals_of part) change (can_note_entry part m l (votes_of entry) there) in
    let before : change.before ≡ 0 = none_held_yet tally m l in
    let same : votes_before tally m (l + 1) ≡ all_votes (noted (totals_of part) change) =
    ap (λ (t : Tally). all_votes (totals_of t)) (next_held tally m l entry is) ∙ ap all_votes (noted_entry part m l entry there) in
    omega arith

pub few : (votes : Option ℕ) → IfSome votes (λ n. n ≤ 1000000000) → option_map_or (λ n. n) votes 0 ≤ 1000000000
few None is = omega arith
few (Some n) is = is

next_adds : (tally : Tally) (m l : ℕ) → IsTally tally → IsThere tally.canton m l → votes_before tally m (l + 1) ≤ votes_before tally m l + 1000000000
next_adds tally m l limits there =
    elim (held tally m l) as (λ h. held tally m l ≡ h → votes_before tally m (l + 1) ≤ votes_before tally m l + 1000000000) [
      | None ↦ λ is. let same : votes_before tally m (l + 1) ≡ votes_before tally m l = ap (λ (t : Tally). all_votes (totals_of t)) (next_not_held tally m l is) in omega arith
      | (Some entry) ↦ λ is.
          let sum = entry_adds tally m l entry limits there is in
          let entry_limits : IsEntry entry = subst (λ h. IfSome h IsEntry) is (limits.entries m l) in
          let votes : votes_of entry ≤ 1000000000 = few entry.votes entry_limits.votes in
          omega arith
    ] refl

lists_add : (tally : Tally) (m n : ℕ) → IsTally tally → has_municipality tally.canton m ≡ true → n ≤ length tally.canton.groups → votes_before tally m (n + 1) ≤ votes_before tally m 1 + n * 1000000000
lists_add tally m zero limits there within = omega arith
lists_add tally m (suc n) limits there within =
    let next : suc n ≡ n + 1 = omega arith in
    let rest = lists_add tally m n limits there (omega arith) in
    let step = next_adds tally m (n + 1) limits (key_there tally.canton m (n + 1) limits.canton there (omega arith) (omega arith)) in
    let same : votes_before tally m (suc n + 1) ≡ votes_before tally m (n + 1 + 1) = ap (λ k. votes_before tally m (k + 1)) next in
    omega arith

municipalities_add : (tally : Tally) (n : ℕ) → IsTally tally → n ≤ length tally.canton.municipalities → votes_before tally (n + 1) 1 ≤ n * 32000000000
municipalities_add tally zero limits within =
    let none : votes_before tally 1 1 ≡ 0 = ap (λ (t : Tally). all_votes (totals_of t)) (before_first tally limits) ∙ no_votes_yet tally.canton in
    omega arith
municipalities_add tally (suc n) limits within =
    let next : suc n ≡ n + 1 = omega arith in
    let rest = municipalities_add tally n limits (omega arith) in
    let there = municipality_there tally.canton (n + 1) (omega arith) (omega arith) in
    let row = lists_add tally (n + 1) (length tally.canton.groups) limits there (omega arith) in
    let groups = limits.canton.groups.1 in
    let same : votes_before tally (suc n + 1) 1 ≡ votes_before tally (n + 1) (length tally.canton.groups + 1) =
    ap (λ k. votes_before tally (k + 1) 1) next ∙ ap (λ (t : Tally). all_votes (totals_of t)) (sym (next_municipality tally (n + 1) limits)) in
    omega arith

-- a count has at most 1,000,000,000 votes for each of 32 lists in 512 municipalities
pub few_votes : (tally : Tally) → IsTally tally → all_votes (totals_of tally) ≤ 16384000000000
few_votes tally limits =
    let all : votes_before tally (length tally.canton.municipalities + 1) 1 ≡ all_votes (totals_of tally) = ap (λ (t : Tally). all_votes (totals_of t)) (after_last tally limits) in
    omega (arith, municipalities_add tally (length tally.canton.municipalities) limits (omega arith), limits.canton.municipalities.1)

pub AreTotals-of : (tally : Tally) → IsTally tally → AreTotals (totals_of tally)
AreTotals-of tally limits = record {
  canton = limits.canton;
  one_each = length-table (counted tally) (length tally.canton.constituencies) (length tally.canton.groups);
  most = omega (arith, few_votes tally limits);
}

-- the sums before the first return are 0
pub no_sums : (canton : Canton) → IsCanton canton → (totals_of (empty canton)).votes ≡ replicate (length canton.constituencies * length canton.groups) 0
no_sums canton limits =
    let rows = length canton.constituencies in
    let c = length canton.groups in
    same_table rows c (table (counted (empty canton)) rows c) (replicate (rows * c) 0) (length-table (counted (empty canton)) rows c) (length-replicate (rows * c) 0) (λ d g row column.
    at_table (counted (empty canton)) rows c d g row column ∙ none_counted canton (d + 1) (g + 1)
    ∙ sym (get_or-replicate (rows * c) (d * c + g) 0 0 (cell-within rows c d g row column)))

pub AreConstituencies-empty : (canton : Canton) → AreConstituencies (totals_of (empty canton)) (replicate (length canton.constituencies) 0)
AreConstituencies-empty canton = record {
  one_each = length-replicate (length canton.constituencies) 0;
  votes = λ i within. get_or-replicate (length canton.constituencies) i 0 0 within ∙ sym (no_constituency_votes canton (i + 1) (omega arith) (omega arith));
}
