-- The entries of a count before a key, in the order of municipalities and lists.
use Rattle.std.proofs.Common.{◌≡◌, ◌∙◌, ℕ, ◌+◌, ◌≤◌, ◌&&◌, ◌||◌, ◌==◌, Bool, true, false, cond, length, Option, Some, None, IfSome, sym, ap, subst, refl, arith}
use Rattle.std.specs.Ordering.{eq_by_cmp}
use Rattle.std.specs.FinMap as map_of
use Rattle.std.proofs.lemmas.Bool.Decides.{nat_tests}
use Rattle.zh_returns.specs.declared.entry.Entry.{Entry}
use Rattle.zh_returns.specs.Limits.{IsTally, IsEntry}
use Rattle.zh_returns.specs.Tally.{Tally, held}
use Rattle.zh_returns.specs.Keys.{key_cmp}
use Rattle.zh_returns.proofs.CallerLemmas.{keys_total, exact_keys, keys_equal, key_test}
use Rattle.zh_districts.proofs.CallerLemmas.{municipality_within, list_within}
use Rattle.zh_districts.specs.Canton.{has_municipality, stands, constituency_of}
use Rattle.std.specs.Option.{option_map_or}
use Rattle.zh_totals.specs.Counting.{votes_of}
use Rattle.zh_totals.specs.Changes.{votes_held}
use Rattle.zh_totals.specs.Parts.{is_before, held_before}
use Rattle.zh_totals.proofs.NotingLemmas.{with_entry}

-- what the entries before a key hold
pub get_before : (tally : Tally) (m l : ℕ) (key : ℕ × ℕ) → map_of.get (held_before tally m l).entries key ≡ cond (is_before m l key) (map_of.get tally.entries key) None
get_before tally m l key = map_of.get-retain_keys tally.entries (is_before m l) key (λ other same. ap (is_before m l) (sym (exact_keys key other same)))

-- the numbers of a key that is held
pub record IsHeld (tally : Tally) (key : ℕ × ℕ) : Type 0 where
  pub municipality : (1 ≤ key.0) × (key.0 ≤ length tally.canton.municipalities)
  pub list : (1 ≤ key.1) × (key.1 ≤ length tally.canton.groups)

is_held : (tally : Tally) (key : ℕ × ℕ) (entry : Entry) → IsTally tally → map_of.get tally.entries key ≡ Some entry → IsHeld tally key
is_held tally key entry limits is =
    let there : has_municipality tally.canton key.0 ≡ true = subst (λ h. IfSome h (λ _. has_municipality tally.canton key.0 ≡ true)) is (limits.municipalities key.0 key.1) in
    let standing : stands tally.canton (constituency_of tally.canton key.0) key.1 ≡ true =
    subst (λ h. IfSome h (λ _. stands tally.canton (constituency_of tally.canton key.0) key.1 ≡ true)) is (limits.lists key.0 key.1) in
    record { municipality = municipality_within tally.canton key.0 there; list = list_within tally.canton (constituency_of tally.canton key.0) key.1 standing }

nothing : (a : Bool) → ◌≡◌ {A = Option Entry} (cond a None None) None
nothing true = refl
nothing false = refl

-- two tests that agree on what is held
agree : (a b : Bool) (h : Option Entry) → ((entry : Entry) → h ≡ Some entry → a ≡ b) → cond a h None ≡ cond b h None
agree a b None same = nothing a ∙ sym (nothing b)
agree a b (Some entry) same = ap (λ (t : Bool). cond t (Some entry) None) (same entry refl)

-- equal entries make equal counts
pub same_tally : (tally : Tally) (a b : map_of.FinMap key_cmp Entry) → ((key : ℕ × ℕ) → map_of.get a key ≡ map_of.get b key)
    → ◌≡◌ {A = Tally} (record tally { entries = a }) (record tally { entries = b })
same_tally tally a b same = ap (λ entries. record tally { entries = entries }) (map_of.same_map keys_total exact_keys a b same)

-- the entries before two keys are the same if the keys that are held do not tell them apart
same_before : (tally : Tally) (m l n k : ℕ) → IsTally tally → ((key : ℕ × ℕ) → IsHeld tally key → is_before m l key ≡ is_before n k key) → held_before tally m l ≡ held_before tally n k
same_before tally m l n k limits same =
    same_tally tally (held_before tally m l).entries (held_before tally n k).entries (λ key.
    get_before tally m l key
    ∙ agree (is_before m l key) (is_before n k key) (map_of.get tally.entries key) (λ entry is. same key (is_held tally key entry limits is))
    ∙ sym (get_before tally n k key))

-- after the last list of a municipality comes the first of the next
row_ends : (m a b g : ℕ) → 1 ≤ b → b ≤ g → is_before m (g + 1) (a, b) ≡ is_before (m + 1) 1 (a, b)
row_ends m a b g from_one within = grind (arith, nat_tests)

pub next_municipality : (tally : Tally) (m : ℕ) → IsTally tally → held_before tally m (length tally.canton.groups + 1) ≡ held_before tally (m + 1) 1
next_municipality tally m limits = same_before tally m (length tally.canton.groups + 1) (m + 1) 1 limits (λ key held. row_ends m key.0 key.1 (length tally.canton.groups) held.list.0 held.list.1)

-- no key comes before the first one
none_before_first : (a b : ℕ) → 1 ≤ a → 1 ≤ b → is_before 1 1 (a, b) ≡ false
none_before_first a b municipality list = grind (arith, nat_tests)

pub before_first : (tally : Tally) → IsTally tally → held_before tally 1 1 ≡ record tally { entries = map_of.empty }
before_first tally limits =
    same_tally tally (held_before tally 1 1).entries map_of.empty (λ key.
    get_before tally 1 1 key
    ∙ agree (is_before 1 1 key) false (map_of.get tally.entries key) (λ entry is. let held = is_held tally key entry limits is in none_before_first key.0 key.1 held.municipality.0 held.list.0)
    ∙ sym (map_of.get-empty key_cmp key))

-- all keys come before the end
all_before_last : (m a b : ℕ) → a ≤ m → is_before (m + 1) 1 (a, b) ≡ true
all_before_last m a b within = grind (arith, nat_tests)

pub after_last : (tally : Tally) → IsTally tally → held_before tally (length tally.canton.municipalities + 1) 1 ≡ tally
after_last tally limits =
    same_tally tally (held_before tally (length tally.canton.municipalities + 1) 1).entries tally.entries (λ key.
    get_before tally (length tally.canton.municipalities + 1) 1 key
    ∙ agree (is_before (length tally.canton.municipalities + 1) 1 key) true (map_of.get tally.entries key)
    (λ entry is. let held = is_held tally key entry limits is in all_before_last (length tally.canton.municipalities) key.0 key.1
    held.municipality.1))

-- before the next list comes one more key
one_more : (m l a b : ℕ) → is_before m (l + 1) (a, b) ≡ ((a == m && b == l) || is_before m l (a, b))
one_more m l a b = grind (arith, nat_tests)

-- a key does not come before itself
not_before_itself : (m l : ℕ) → is_before m l (m, l) ≡ false
not_before_itself m l = grind (arith, nat_tests)

taken_in : (this before : Bool) (h : Option Entry) (entry : Entry) → (this ≡ true → h ≡ Some entry) → cond (this || before) h None ≡ cond this (Some entry) (cond before h None)
taken_in true before h entry is = is refl
taken_in false before h entry is = refl

left_out : (this before : Bool) (h : Option Entry) → (this ≡ true → h ≡ None) → cond (this || before) h None ≡ cond before h None
left_out true before h is = is refl ∙ sym (nothing before) ∙ ap (λ o. cond before o None) (sym (is refl))
left_out false before h is = refl

-- before the next list comes the entry of this key, too
pub next_held : (tally : Tally) (m l : ℕ) (entry : Entry) → held tally m l ≡ Some entry → held_before tally m (l + 1) ≡ with_entry (held_before tally m l) m l entry
next_held tally m l entry is =
    same_tally tally (held_before tally m (l + 1)).entries (with_entry (held_before tally m l) m l entry).entries (λ key.
    get_before tally m (l + 1) key
    ∙ ap (λ b. cond b (map_of.get tally.entries key) None) (one_more m l key.0 key.1 ∙ ap (λ this. this || is_before m l key) (sym (key_test key.0 key.1 m l)))
    ∙ taken_in (eq_by_cmp key_cmp key (m, l)) (is_before m l key) (map_of.get tally.entries key) entry (λ same. ap (map_of.get tally.entries) (keys_equal key (m, l) same) ∙ is)
    ∙ ap (λ h. cond (eq_by_cmp key_cmp key (m, l)) (Some entry) h) (sym (get_before tally m l key))
    ∙ sym (map_of.get-insert keys_total (held_before tally m l).entries (m, l) entry key))

pub next_not_held : (tally : Tally) (m l : ℕ) → held tally m l ≡ None → held_before tally m (l + 1) ≡ held_before tally m l
next_not_held tally m l is =
    same_tally tally (held_before tally m (l + 1)).entries (held_before tally m l).entries (λ key.
    get_before tally m (l + 1) key
    ∙ ap (λ b. cond b (map_of.get tally.entries key) None) (one_more m l key.0 key.1 ∙ ap (λ this. this || is_before m l key) (sym (key_test key.0 key.1 m l)))
    ∙ left_out (eq_by_cmp key_cmp key (m, l)) (is_before m l key) (map_of.get tally.entries key) (λ same. ap (map_of.get tally.entries) (keys_equal key (m, l) same) ∙ is)
    ∙ sym (get_before tally m l key))

-- among the entries before a key, nothing is held under the key
pub none_held_yet : (tally : Tally) (m l : ℕ) → votes_held (held_before tally m l) m l ≡ 0
none_held_yet tally m l = ap (λ h. option_map_or votes_of h 0) (get_before tally m l (m, l) ∙ ap (λ b. cond b (map_of.get tally.entries (m, l)) None) (not_before_itself m l))

-- a part of a count is within the limits
part_of : (P : Entry → Type 0) (b : Bool) (h : Option Entry) → IfSome h P → IfSome (cond b h None) P
part_of P true h is = is
part_of P false h is = tt

pub IsTally-before : (tally : Tally) (m l : ℕ) → IsTally tally → IsTally (held_before tally m l)
IsTally-before tally m l limits =
    let kept : (P : Entry → Type 0) (key : ℕ × ℕ) → IfSome (map_of.get tally.entries key) P → IfSome (map_of.get (held_before tally m l).entries key) P =
    λ P key is. subst (λ h. IfSome h P) (sym (get_before tally m l key)) (part_of P (is_before m l key) (map_of.get tally.entries key) is) in
    record {
      canton = limits.canton;
      entries = λ a b. kept IsEntry (a, b) (limits.entries a b);
      lists = λ a b. kept (λ _. stands tally.canton (constituency_of tally.canton a) b ≡ true) (a, b) (limits.lists a b);
      municipalities = λ a b. kept (λ _. has_municipality tally.canton a ≡ true) (a, b) (limits.municipalities a b);
      closed = limits.closed;
      accepted = limits.accepted;
    }
