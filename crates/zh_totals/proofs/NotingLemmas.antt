-- The totals of a count with one more entry.
use Rattle.std.proofs.Common.{◌≡◌, ◌∙◌, ℕ, ◌+◌, ◌-◌, ◌*◌, ◌≤◌, ◌<◌, ◌==◌, Bool, true, false, cond, T, length, get_or, set, sym, ap, subst}
use Rattle.std.proofs.Common.{refl, arith, inl, inr, length-set, get_or-set_same, get_or-set_other}
use Rattle.std.specs.FinMap as map_of
use Rattle.std.specs.FinMap.Entries.{put, find, is_sorted}
use Rattle.std.proofs.lemmas.Bool.{cases_eq, and_from, and_parts, eq-eqb, eqb-true, false_from_ne_true}
use Rattle.zh_districts.specs.Canton.{Canton, constituency_of}
use Rattle.zh_returns.specs.declared.entry.Entry.{Entry}
use Rattle.zh_returns.specs.Tally.{Tally}
use Rattle.zh_returns.specs.Keys.{key_cmp}
use Rattle.zh_returns.proofs.CallerLemmas.{keys_total}
use Rattle.zh_divisors.proofs.CallerLemmas.{cell-within, same_place, same_table}
use Rattle.zh_totals.specs.Totals.{place_in, votes_in}
use Rattle.zh_totals.specs.Counting.{votes_of, lies_in, counted, totals_of}
use Rattle.zh_totals.specs.Changes.{noted, sum_after, votes_held, change_to}
use Rattle.zh_totals.proofs.EntryLemmas.{passing, votes_found, passing_put, found_in_passing}
use Rattle.zh_totals.proofs.PlaceLemmas.{table, length-table, at_table}

-- a count with an entry in place of what is held under its key
abbrev pub with_entry : Tally → ℕ → ℕ → Entry → Tally
with_entry tally municipality list entry = record tally { entries = map_of.insert tally.entries (municipality, list) entry }

pub is_true : (b : Bool) → T b → b ≡ true
is_true true t = refl
is_true false t = absurd t

-- the votes of group g in constituency d, after an entry is put in
counted_insert : (tally : Tally) (m l : ℕ) (entry : Entry) (d g : ℕ) →
    counted (with_entry tally m l entry) d g + cond (lies_in tally.canton d g (m, l)) (votes_held tally m l) 0 ≡ counted tally d g + cond (lies_in tally.canton d g (m, l)) (votes_of entry) 0
counted_insert tally m l entry d g =
    let p : ℕ × ℕ → Bool = lies_in tally.canton d g in
    let es = map_of.entries tally.entries in
    let new : passing p (map_of.entries (map_of.insert tally.entries (m, l) entry)) ≡ passing p (put key_cmp (m, l) entry es) =
    ap (passing p) (map_of.entries-insert keys_total tally.entries (m, l) entry) in
    let old : votes_held tally m l ≡ votes_found (find key_cmp (m, l) es) = ap votes_found (map_of.get-entries tally.entries (m, l)) in
    ap (λ n. n + cond (p (m, l)) (votes_held tally m l) 0) new
    ∙ ap (λ n. passing p (put key_cmp (m, l) entry es) + cond (p (m, l)) n 0) old
    ∙ passing_put p (m, l) entry es (is_true (is_sorted key_cmp es) (map_of.entries_sorted tally.entries))

lies_there : (canton : Canton) (d g m l : ℕ) → constituency_of canton m ≡ d → l ≡ g → lies_in canton d g (m, l) ≡ true
lies_there canton d g m l constituency list = and_from (constituency_of canton m == d) (l == g) (eq-eqb (constituency_of canton m) d constituency) (eq-eqb l g list)

-- the votes held under a key are at most their sum
pub held_counted : (tally : Tally) (m l : ℕ) → votes_held tally m l ≤ counted tally (constituency_of tally.canton m) l
held_counted tally m l =
    let d = constituency_of tally.canton m in
    subst (λ n. n ≤ counted tally d l) (ap votes_found (sym (map_of.get-entries tally.entries (m, l)))) (
    found_in_passing (lies_in tally.canton d l) (m, l) (map_of.entries tally.entries) (lies_there tally.canton d l m l refl refl)
    )

-- the sum of the entry's constituency and list
counted_there : (tally : Tally) (m l : ℕ) (entry : Entry) (d : ℕ) → constituency_of tally.canton m ≡ d →
    counted (with_entry tally m l entry) d l ≡ counted tally d l - votes_held tally m l + votes_of entry
counted_there tally m l entry d is =
    let sum : counted (with_entry tally m l entry) d l + votes_held tally m l ≡ counted tally d l + votes_of entry =
    subst (λ b. counted (with_entry tally m l entry) d l + cond b (votes_held tally m l) 0 ≡ counted tally d l + cond b (votes_of entry) 0)
    (lies_there tally.canton d l m l is refl) (counted_insert tally m l entry d l) in
    let within : votes_held tally m l ≤ counted tally d l = subst (λ n. votes_held tally m l ≤ counted tally n l) is (held_counted tally m l) in
    omega arith

-- every other sum
counted_elsewhere : (tally : Tally) (m l : ℕ) (entry : Entry) (d g : ℕ) → lies_in tally.canton d g (m, l) ≡ false → counted (with_entry tally m l entry) d g ≡ counted tally d g
counted_elsewhere tally m l entry d g elsewhere =
    let sum : counted (with_entry tally m l entry) d g + 0 ≡ counted tally d g + 0 =
    subst (λ b. counted (with_entry tally m l entry) d g + cond b (votes_held tally m l) 0 ≡ counted tally d g + cond b (votes_of entry) 0) elsewhere (counted_insert tally m l entry d g) in
    omega arith

-- a sum of a count's totals
pub votes_counted : (tally : Tally) (d g : ℕ) → 1 ≤ d → d ≤ length tally.canton.constituencies → 1 ≤ g → g ≤ length tally.canton.groups → votes_in (totals_of tally) d g ≡ counted tally d g
votes_counted tally d g from_one within group_from_one group_within =
    let row : d - 1 + 1 ≡ d = omega arith in
    let column : g - 1 + 1 ≡ g = omega arith in
    at_table (counted tally) (length tally.canton.constituencies) (length tally.canton.groups) (d - 1) (g - 1) (omega arith) (omega arith)
    ∙ ap (λ n. counted tally n (g - 1 + 1)) row ∙ ap (counted tally d) column

-- a key of the set-up: its constituency and its list are in the set-up
pub record IsThere (canton : Canton) (m l : ℕ) : Type 0 where
  pub constituency : (1 ≤ constituency_of canton m) × (constituency_of canton m ≤ length canton.constituencies)
  pub list : (1 ≤ l) × (l ≤ length canton.groups)

-- one more entry is one more change that is noted
pub noted_entry : (tally : Tally) (m l : ℕ) (entry : Entry) → IsThere tally.canton m l →
    totals_of (with_entry tally m l entry) ≡ noted (totals_of tally) (change_to tally m l (votes_of entry))
noted_entry tally m l entry there =
    let rows = length tally.canton.constituencies in
    let c = length tally.canton.groups in
    let at = constituency_of tally.canton m in
    let place = place_in tally.canton at l in
    let old = table (counted tally) rows c in
    let new = table (counted (with_entry tally m l entry)) rows c in
    let value = sum_after (totals_of tally) (change_to tally m l (votes_of entry)) in
    let whole : length old ≡ rows * c = length-table (counted tally) rows c in
    let inside : place < rows * c = cell-within rows c (at - 1) (l - 1) (omega arith) (omega arith) in
    let same : new ≡ set old place value =
    same_table rows c new (set old place value) (length-table (counted (with_entry tally m l entry)) rows c) (length-set old place value ∙ whole) (λ d g row column.
    at_table (counted (with_entry tally m l entry)) rows c d g row column
    ∙ elim (cases_eq (d * c + g) place) [
      | inl here ↦
          let parts = same_place c d g (at - 1) (l - 1) column (omega arith) here in
          let constituency : at ≡ d + 1 = omega arith in
          let list : g + 1 ≡ l = omega arith in
          let sum : votes_in (totals_of tally) at l ≡ counted tally at l = votes_counted tally at l there.constituency.0 there.constituency.1 there.list.0 there.list.1 in
          ap (counted (with_entry tally m l entry) (d + 1)) list
          ∙ ap (λ n. counted (with_entry tally m l entry) n l) (sym constituency)
          ∙ counted_there tally m l entry at refl
          ∙ ap (λ n. n - votes_held tally m l + votes_of entry) (sym sum)
          ∙ sym (ap (λ n. get_or (set old place value) n 0) here ∙ get_or-set_same old place value 0 (omega arith))
      | inr elsewhere ↦
          counted_elsewhere tally m l entry (d + 1) (g + 1) (
          false_from_ne_true _ (λ lies.
          let parts = and_parts (at == d + 1) (l == g + 1) lies in
          let constituency : at ≡ d + 1 = eqb-true at (d + 1) parts.0 in
          let list : l ≡ g + 1 = eqb-true l (g + 1) parts.1 in
          let row_is : at - 1 ≡ d = omega arith in
          let column_is : l - 1 ≡ g = omega arith in
          elsewhere (sym (ap (λ n. n * c + (l - 1)) row_is ∙ ap (λ n. d * c + n) column_is))
          ))
          ∙ sym (get_or-set_other old place (d * c + g) value 0 elsewhere ∙ at_table (counted tally) rows c d g row column)
    ]) in
    λ i. record { canton = tally.canton; votes = same i }
