-- The votes of the entries of a map.
use Rattle.std.proofs.Common.{◌≡◌, ◌∙◌, ℕ, ◌+◌, ◌≤◌, Bool, true, false, cond, List, [], ◌∷◌, Option, Some, None, Ordering, Less, Equal, Greater, is_lt, is_eq, sum_by, filter, sym, ap, refl, arith}
use Rattle.std.specs.Option.{option_map_or}
use Rattle.std.specs.Ordering.{eq_by_cmp}
use Rattle.std.specs.FinMap.Entries.{put, find, is_sorted, below_all, by_order}
use Rattle.std.proofs.lemmas.Bool.{and_parts, and_from}
use Rattle.std.proofs.lemmas.List.Sums.{sum_by-cons}
use Rattle.zh_returns.specs.declared.entry.Entry.{Entry}
use Rattle.zh_returns.specs.Keys.{key_cmp}
use Rattle.zh_returns.proofs.CallerLemmas.{keys_total, exact_keys, keys_equal}
use Rattle.zh_totals.specs.Counting.{votes_of}

-- the votes of the entries whose keys pass a test
abbrev pub passing : (ℕ × ℕ → Bool) → List ((ℕ × ℕ) × Entry) → ℕ
passing p es = sum_by (λ e. votes_of e.1) (filter (λ e. p e.0) es)

-- the votes of what was found, 0 if nothing was
abbrev pub votes_found : Option Entry → ℕ
votes_found found = option_map_or votes_of found 0

pub passing_first : (p : ℕ × ℕ → Bool) (e : (ℕ × ℕ) × Entry) (es : List ((ℕ × ℕ) × Entry)) → passing p (e ∷ es) ≡ cond (p e.0) (votes_of e.1) 0 + passing p es
passing_first p e es =
    elim (p e.0) as (λ b. sum_by (λ e. votes_of e.1) (cond b (e ∷ filter (λ e. p e.0) es) (filter (λ e. p e.0) es)) ≡ cond b (votes_of e.1) 0 + passing p es) [
      | true ↦ sum_by-cons (λ (e : (ℕ × ℕ) × Entry). votes_of e.1) e (filter (λ e. p e.0) es)
      | false ↦ omega arith
    ]

is_less : (o : Ordering) → is_lt o ≡ true → o ≡ Less
is_less Less is = refl
is_less Equal is = cc
is_less Greater is = cc

-- a key before all others is not among them
pub find_before : (k : ℕ × ℕ) (es : List ((ℕ × ℕ) × Entry)) → below_all key_cmp k es ≡ true → find key_cmp k es ≡ None
find_before k [] before = refl
find_before k (e ∷ es) before =
    let parts = and_parts (is_lt (key_cmp k e.0)) (below_all key_cmp k es) before in
    ap (λ o. cond (is_eq o) (Some e.1) (find key_cmp k es)) (is_less (key_cmp k e.0) parts.0) ∙ find_before k es parts.1

-- a key before one that is before all others is before all others
before_all : (k q : ℕ × ℕ) (es : List ((ℕ × ℕ) × Entry)) → key_cmp k q ≡ Less → below_all key_cmp q es ≡ true → below_all key_cmp k es ≡ true
before_all k q [] less before = refl
before_all k q (e ∷ es) less before =
    let parts = and_parts (is_lt (key_cmp q e.0)) (below_all key_cmp q es) before in
    and_from (is_lt (key_cmp k e.0)) (below_all key_cmp k es) (ap is_lt (keys_total.trans k q e.0 less (is_less (key_cmp q e.0) parts.0))) (before_all k q es less parts.1)

no_votes : (b : Bool) → ◌≡◌ {A = ℕ} (cond b 0 0) 0
no_votes true = refl
no_votes false = refl

-- if an entry replaces what is under its key, its votes are added, and those that were there are taken away
pub passing_put : (p : ℕ × ℕ → Bool) (k : ℕ × ℕ) (v : Entry) (es : List ((ℕ × ℕ) × Entry)) → is_sorted key_cmp es ≡ true →
    passing p (put key_cmp k v es) + cond (p k) (votes_found (find key_cmp k es)) 0 ≡ passing p es + cond (p k) (votes_of v) 0
passing_put p k v [] sorted = omega (arith, passing_first p (k, v) [], no_votes (p k))
passing_put p k v (e ∷ es) sorted =
    let parts = and_parts (below_all key_cmp e.0 es) (is_sorted key_cmp es) sorted in
    let old = passing_first p e es in
    elim (key_cmp k e.0) as (λ o. key_cmp k e.0 ≡ o →
    passing p (by_order o ((k, v) ∷ e ∷ es) ((e.0, v) ∷ es) (e ∷ put key_cmp k v es)) + cond (p k)
    (votes_found (cond (is_eq o) (Some e.1) (find key_cmp k es))) 0 ≡ passing p (e ∷ es) + cond (p k) (votes_of v) 0) [
      | Less ↦ λ o.
          let none : find key_cmp k es ≡ None = find_before k es (before_all k e.0 es o parts.0) in
          let nothing : cond (p k) (votes_found (find key_cmp k es)) 0 ≡ 0 = ap (λ found. cond (p k) (votes_found found) 0) none ∙ no_votes (p k) in
          let new = passing_first p (k, v) (e ∷ es) in
          omega arith
      | Equal ↦ λ o.
          let keys : k ≡ e.0 = exact_keys k e.0 o in
          let before : cond (p k) (votes_of e.1) 0 ≡ cond (p e.0) (votes_of e.1) 0 = ap (λ key. cond (p key) (votes_of e.1) 0) keys in
          let after : cond (p k) (votes_of v) 0 ≡ cond (p e.0) (votes_of v) 0 = ap (λ key. cond (p key) (votes_of v) 0) keys in
          let new = passing_first p (e.0, v) es in
          omega arith
      | Greater ↦ λ o.
          let rest = passing_put p k v es parts.1 in
          let new = passing_first p e (put key_cmp k v es) in
          omega arith
    ] refl

-- the votes under a key are among those of all entries
pub found_in_passing : (p : ℕ × ℕ → Bool) (k : ℕ × ℕ) (es : List ((ℕ × ℕ) × Entry)) → p k ≡ true → votes_found (find key_cmp k es) ≤ passing p es
found_in_passing p k [] passes = omega arith
found_in_passing p k (e ∷ es) passes =
    let all = passing_first p e es in
    elim (eq_by_cmp key_cmp k e.0) as (λ same. eq_by_cmp key_cmp k e.0 ≡ same → votes_found (cond same (Some e.1) (find key_cmp k es)) ≤ passing p (e ∷ es)) [
      | true ↦ λ same.
          let here : cond (p e.0) (votes_of e.1) 0 ≡ votes_of e.1 = ap (λ b. cond b (votes_of e.1) 0) (ap p (sym (keys_equal k e.0 same)) ∙ passes) in
          omega arith
      | false ↦ λ other. omega (arith, found_in_passing p k es passes)
    ] refl
