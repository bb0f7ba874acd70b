-- What a table of entries means.
use Rattle.std.proofs.Common.{◌≡◌, ◌<◌, ◌≤◌, ◌+◌, ◌∙◌, ℕ, zero, suc, Bool, true, false, cond, List, [], ◌∷◌, length, get_or, set, Option, Some, None, sym, ap, subst, refl, arith}
use Rattle.std.specs.List.{All, AllByRecursion}
use Rattle.std.specs.Ordering.{eq_by_cmp}
use Rattle.std.specs.FinMap as map
use Rattle.std.proofs.lemmas.List.Elements.{recursion_from_All}
use Rattle.std.proofs.lemmas.List.{get_or_read}
use Rattle.std.proofs.lemmas.Option.{none-some}
use Rattle.zh_returns.specs.declared.entry.Entry.{Entry}
use Rattle.zh_returns.specs.Keys.{key_cmp}
use Rattle.zh_returns.specs.Tables.{key_of, place_of, entries_from, entries_of}
use Rattle.zh_returns.proofs.KeyLemmas.{exact_keys, keys_total, same_key, keys_equal}
use Rattle.zh_returns.proofs.PlaceLemmas.{places_equal, other_key, key_of-place_of}

-- nothing is found under a key that no place from here on has
find_missed : (place : ℕ) (table : List (Option Entry)) (key : ℕ × ℕ) → ((at : ℕ) → place ≤ at → eq_by_cmp key_cmp key (key_of at) ≡ false) → map.find key_cmp key (entries_from place table) ≡ None
find_missed place [] key none = refl
find_missed place (None ∷ table) key none = find_missed (place + 1) table key (λ at from. none at (omega arith))
find_missed place (Some entry ∷ table) key none =
    ap (λ b. cond b (Some entry) (map.find key_cmp key (entries_from (place + 1) table))) (none place (omega arith))
    ∙ find_missed (place + 1) table key (λ at from. none at (omega arith))

-- what is found under the key of a place is what the place holds
find_place : (place i : ℕ) (table : List (Option Entry)) → map.find key_cmp (key_of (place + i)) (entries_from place table) ≡ get_or table i None
find_place place i [] = refl
find_place place zero (None ∷ table) = find_missed (place + 1) table (key_of (place + 0)) (λ at from. other_key (place + 0) at (λ is. omega arith))
find_place place zero (Some entry ∷ table) =
    let here : place + 0 ≡ place = omega arith in
    ap (λ at. cond (eq_by_cmp key_cmp (key_of at) (key_of place)) (Some entry) (map.find key_cmp (key_of (place + 0)) (entries_from (place + 1) table))) here
    ∙ ap (λ b. cond b (Some entry) (map.find key_cmp (key_of (place + 0)) (entries_from (place + 1) table))) (same_key (key_of place))
find_place place (suc i) (None ∷ table) =
    let next : place + suc i ≡ (place + 1) + i = omega arith in
    ap (λ at. map.find key_cmp (key_of at) (entries_from (place + 1) table)) next ∙ find_place (place + 1) i table
find_place place (suc i) (Some entry ∷ table) =
    let next : place + suc i ≡ (place + 1) + i = omega arith in
    ap (λ b. cond b (Some entry) (map.find key_cmp (key_of (place + suc i)) (entries_from (place + 1) table))) (other_key (place + suc i) place (λ is. omega arith))
    ∙ ap (λ at. map.find key_cmp (key_of at) (entries_from (place + 1) table)) next ∙ find_place (place + 1) i table

-- what the table holds under the key of a place is what the place holds
pub get-entries_of : (table : List (Option Entry)) (place : ℕ) → map.get (entries_of table) (key_of place) ≡ get_or table place None
get-entries_of table place =
    map.get-from_entries keys_total (entries_from 0 table) (key_of place)
    ∙ subst (λ at. map.find key_cmp (key_of at) (entries_from 0 table) ≡ get_or table place None) (omega arith) (find_place 0 place table)

-- the same under a key of a list up to 32
pub get_key : (table : List (Option Entry)) (municipality list : ℕ) → 1 ≤ municipality → 1 ≤ list → list ≤ 32
    → map.get (entries_of table) (municipality, list) ≡ get_or table (place_of municipality list) None
get_key table municipality list from_one list_from_one within =
    ap (map.get (entries_of table)) (sym (key_of-place_of municipality list from_one list_from_one within)) ∙ get-entries_of table (place_of municipality list)

-- what was read at the place of a key is what the table holds under the key
pub read_key : (table : List (Option Entry)) (place municipality list : ℕ) (read : Option Entry) → 1 ≤ municipality → 1 ≤ list → list ≤ 32
    → place ≡ place_of municipality list → place < length table → read ≡ get_or table place read → read
    ≡ map.get (entries_of table) (municipality, list)
read_key table place municipality list read from_one list_from_one within place_is in_table read_is =
    get_or_read table place read in_table read_is None ∙ ap (λ at. get_or table at None) place_is
    ∙ sym (get_key table municipality list from_one list_from_one within)

-- a table without entries is the empty map
entries_from-absent : (place : ℕ) (table : List (Option Entry)) → AllByRecursion (λ (entry : Option Entry). entry ≡ None) table → entries_from place table ≡ []
entries_from-absent place [] absent = refl
entries_from-absent place (None ∷ table) absent = entries_from-absent (place + 1) table absent.1
entries_from-absent place (Some entry ∷ table) absent = absurd (none-some entry (sym absent.0))

pub entries_of-absent : (table : List (Option Entry)) → All (λ (entry : Option Entry). entry ≡ None) table → entries_of table ≡ map.empty
entries_of-absent table absent = ap (map.from_entries {R = key_cmp}) (entries_from-absent 0 table (recursion_from_All (λ (entry : Option Entry). entry ≡ None) table absent))

-- if two tests do not both pass, either can come first
swapped : {X : Type 0} (a b : Bool) (x y z : X) → (a ≡ true → b ≡ true → ⊥) → cond a x (cond b y z) ≡ cond b y (cond a x z)
swapped true true x y z not_both = absurd (not_both refl refl)
swapped true false x y z not_both = refl
swapped false b x y z not_both = refl

-- of two equal tests, only the first matters
shadowed : {X : Type 0} (a : Bool) (x y z : X) → cond a x z ≡ cond a x (cond a y z)
shadowed true x y z = refl
shadowed false x y z = refl

-- what is found under each key in a table with another entry at one place
find_set : (place i : ℕ) (table : List (Option Entry)) (entry : Entry) (key : ℕ × ℕ) → i < length table →
    map.find key_cmp key (entries_from place (set table i (Some entry))) ≡ cond (eq_by_cmp key_cmp key (key_of (place + i))) (Some entry) (map.find key_cmp key (entries_from place table))
find_set place i [] entry key within = absurd (omega arith)
find_set place zero (None ∷ table) entry key within =
    let here : place ≡ place + 0 = omega arith in
    ap (λ at. cond (eq_by_cmp key_cmp key (key_of at)) (Some entry) (map.find key_cmp key (entries_from (place + 1) table))) here
find_set place zero (Some before ∷ table) entry key within =
    let here : place ≡ place + 0 = omega arith in
    shadowed (eq_by_cmp key_cmp key (key_of place)) (Some entry) (Some before) (map.find key_cmp key (entries_from (place + 1) table))
    ∙ ap (λ at. cond (eq_by_cmp key_cmp key (key_of at)) (Some entry) (map.find key_cmp key (entries_from place (Some before ∷ table)))) here
find_set place (suc i) (None ∷ table) entry key within =
    let next : (place + 1) + i ≡ place + suc i = omega arith in
    find_set (place + 1) i table entry key (omega arith)
    ∙ ap (λ at. cond (eq_by_cmp key_cmp key (key_of at)) (Some entry) (map.find key_cmp key (entries_from (place + 1) table))) next
find_set place (suc i) (Some before ∷ table) entry key within =
    let next : (place + 1) + i ≡ place + suc i = omega arith in
    let rest = map.find key_cmp key (entries_from (place + 1) table) in
    ap (cond (eq_by_cmp key_cmp key (key_of place)) (Some before)) (
    find_set (place + 1) i table entry key (omega arith)
    ∙ ap (λ at. cond (eq_by_cmp key_cmp key (key_of at)) (Some entry) rest) next
    )
    ∙ swapped (eq_by_cmp key_cmp key (key_of place)) (eq_by_cmp key_cmp key (key_of (place + suc i))) (Some before) (Some entry) rest (λ one other.
    let same : place ≡ place + suc i = places_equal place (place + suc i) (sym (keys_equal key (key_of place) one) ∙ keys_equal key (key_of (place + suc i)) other) in
    omega arith
    )

-- putting an entry at a place is inserting it under the key of the place
pub entries_of-set : (table : List (Option Entry)) (place : ℕ) (entry : Entry) → place < length table → entries_of (set table place (Some entry)) ≡ map.insert (entries_of table) (key_of place) entry
entries_of-set table place entry within =
    map.same_map keys_total exact_keys _ _ (λ key.
    map.get-from_entries keys_total (entries_from 0 (set table place (Some entry))) key
    ∙ find_set 0 place table entry key within
    ∙ ap (λ at. cond (eq_by_cmp key_cmp key (key_of at)) (Some entry) (map.find key_cmp key (entries_from 0 table))) (omega arith)
    ∙ ap (cond (eq_by_cmp key_cmp key (key_of place)) (Some entry)) (sym (map.get-from_entries keys_total (entries_from 0 table) key))
    ∙ sym (map.get-insert keys_total (entries_of table) (key_of place) entry key)
    )

-- the same at the place of a key
pub entries_of-put : (table : List (Option Entry)) (place municipality list : ℕ) (entry : Entry) → 1 ≤ municipality → 1 ≤ list → list ≤ 32
    → place ≡ place_of municipality list → place < length table → entries_of (set table place (Some entry)) ≡ map.insert (entries_of table)
    (municipality, list) entry
entries_of-put table place municipality list entry from_one list_from_one within place_is in_table =
    entries_of-set table place entry in_table
    ∙ ap (λ key. map.insert (entries_of table) key entry) (ap key_of place_is ∙ key_of-place_of municipality list from_one list_from_one within)
