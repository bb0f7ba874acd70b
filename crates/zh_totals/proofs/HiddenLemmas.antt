-- A count has no votes of lists that do not stand.
use Rattle.std.proofs.Common.{◌≡◌, ◌∙◌, ℕ, ◌==◌, Bool, true, false, cond, List, [], ◌∷◌, Some, None, IfSome, refl, sym, ap, subst, arith}
use Rattle.std.specs.Ordering.{eq_by_cmp}
use Rattle.std.specs.FinMap as map_of
use Rattle.std.specs.FinMap.Entries.{below_all, find, is_sorted}
use Rattle.std.proofs.lemmas.Bool.{and_parts, eqb-true, false_from_ne_true, false≢true}
use Rattle.zh_districts.specs.Canton.{constituency_of, stands}
use Rattle.zh_returns.specs.Keys.{key_cmp}
use Rattle.zh_returns.proofs.CallerLemmas.{keys_equal, same_key}
use Rattle.zh_returns.specs.declared.entry.Entry.{Entry}
use Rattle.zh_returns.specs.Limits.{IsTally}
use Rattle.zh_returns.specs.Tally.{Tally, held}
use Rattle.zh_totals.specs.Counting.{lies_in, totals_of, votes_of}
use Rattle.zh_totals.specs.Hidden.{NoneHidden}
use Rattle.zh_totals.proofs.EntryLemmas.{find_before, passing, passing_first}
use Rattle.zh_totals.proofs.NotingLemmas.{is_true, votes_counted}

-- the first entry is found under its own key
first_found : (e : (ℕ × ℕ) × Entry) (es : List ((ℕ × ℕ) × Entry)) → find key_cmp e.0 (e ∷ es) ≡ Some e.1
first_found e es = ap (λ b. cond b (Some e.1) (find key_cmp e.0 es)) (same_key e.0)

-- a key that is found among the later entries is found among all
later_found : (e : (ℕ × ℕ) × Entry) (es : List ((ℕ × ℕ) × Entry)) (k : ℕ × ℕ) (entry : Entry) → below_all key_cmp e.0 es ≡ true →
    find key_cmp k es ≡ Some entry → find key_cmp k (e ∷ es) ≡ Some entry
later_found e es k entry before is =
    let other : eq_by_cmp key_cmp k e.0 ≡ false
    = false_from_ne_true _ (λ same.
    let none : find key_cmp k es ≡ None = ap (λ key. find key_cmp key es) (keys_equal k e.0 same) ∙ find_before e.0 es before in
    absurd (cc)) in
    ap (λ b. cond b (Some e.1) (find key_cmp k es)) other ∙ is

-- if no key that is found passes a test, the entries that pass it have no votes
none_passing : (p : ℕ × ℕ → Bool) (es : List ((ℕ × ℕ) × Entry)) → is_sorted key_cmp es ≡ true →
    ((k : ℕ × ℕ) (entry : Entry) → find key_cmp k es ≡ Some entry → p k ≡ false) → passing p es ≡ 0
none_passing p [] sorted none = refl
none_passing p (e ∷ es) sorted none =
    let parts = and_parts (below_all key_cmp e.0 es) (is_sorted key_cmp es) sorted in
    let first : cond (p e.0) (votes_of e.1) 0 ≡ 0 = ap (λ b. cond b (votes_of e.1) 0) (none e.0 e.1 (first_found e es)) in
    let rest : passing p es ≡ 0 = none_passing p es parts.1 (λ k entry is. none k entry (later_found e es k entry parts.0 is)) in
    omega (arith, passing_first p e es)

-- no entry is held where its list does not stand
none_lies : (tally : Tally) (d g : ℕ) (k : ℕ × ℕ) (entry : Entry) → IsTally tally → stands tally.canton d g ≡ false →
    held tally k.0 k.1 ≡ Some entry → lies_in tally.canton d g k ≡ false
none_lies tally d g k entry limits not is =
    false_from_ne_true _ (λ lies.
    let parts = and_parts (constituency_of tally.canton k.0 == d) (k.1 == g) lies in
    let standing : stands tally.canton (constituency_of tally.canton k.0) k.1 ≡ true
    = subst (λ h. IfSome h (λ _. stands tally.canton (constituency_of tally.canton k.0) k.1 ≡ true)) is (limits.lists k.0 k.1) in
    let there : stands tally.canton d g ≡ true
    = sym (ap (λ n. stands tally.canton n k.1) (eqb-true _ d parts.0) ∙ ap (stands tally.canton d) (eqb-true k.1 g parts.1)) ∙ standing in
    absurd (false≢true (sym not ∙ there)))

pub none_hidden : (tally : Tally) → IsTally tally → NoneHidden (totals_of tally)
none_hidden tally limits d from_one there g group_from_one group_there not =
    votes_counted tally d g from_one there group_from_one group_there
    ∙ none_passing (lies_in tally.canton d g) (map_of.entries tally.entries)
    (is_true (is_sorted key_cmp (map_of.entries tally.entries)) (map_of.entries_sorted tally.entries)) (λ k entry is.
    none_lies tally d g k entry limits not (map_of.get-entries tally.entries k ∙ is))
