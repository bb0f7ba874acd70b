-- A value that is out of range has a place in its document.
use Rattle.std.proofs.Common.{◌≡◌, ◌<◌, ℕ, Bool, true, false, cond, ◌&&◌, nat_le, List, [], ◌∷◌, length, get_or, min, Option, Some, None, Err, codes, refl, sym, ap, subst, ◌∙◌, arith}
use Rattle.std.specs.Prelude.{is_some, unwrap_or}
use Rattle.std.specs.List.{list_all}
use Rattle.std.specs.Option.{option_map_or}
use Rattle.std.proofs.lemmas.List.Folds.{list_all_at}
use Rattle.toml.specs.Data.{Data, Members, get, get_member}
use Rattle.zh_districts.specs.Canton.{Canton, Constituency, Municipality, Group}
use Rattle.zh_setups.specs.Document.{◌>>=◌, number_within, name_of, each, values_of, values_at, constituency_from, municipality_from, group_from, stands_of, quorum_of, setup_of, checked, has_double}
use Rattle.zh_setups.specs.Keys.{misses_key, has_other_key}
use Rattle.zh_setups.specs.Places.{are_within, constituencies_in, fault_place, first_of, table_checks, top_checks, values_under}
use Rattle.zh_setups.specs.declared.text.SetupFault.{SetupFault}
use Rattle.zh_setups.specs.declared.text.SetupFault.TheVariants as faults
use Rattle.zh_setups.specs.declared.place.Key.TheVariants as keys
use Rattle.zh_setups.specs.declared.place.Kind.{Kind}
use Rattle.zh_setups.specs.declared.place.Kind.TheVariants as kinds
use Rattle.zh_setups.proofs.PlaceLemmas.{HasPlace, at_top, by_check, double_placed, in_constituencies, in_groups, in_municipalities, in_tables, missing_placed, unknown_placed}
use Rattle.zh_setups.proofs.ValueLemmas.{bind_some, guard_some, length-each, values_at-some}

bind_none : {A B : Type 0} (P : Type 0) (o : Option A) (f : A → Option B) → (o ≡ None → P) → ((x : A) → o ≡ Some x → f x ≡ None → P) → (o >>= f) ≡ None → P
bind_none P None f first later e = first refl
bind_none P (Some x) f first later e = later x refl e

right_false : (a b : Bool) → b ≡ false → (a && b) ≡ false
right_false true b h = h
right_false false b h = refl

-- a value that can't be read is found
each-none : {X : Type 0} (f : Data → Option X) (values : List Data) → each f values ≡ None → list_all (λ value. is_some (f value)) values ≡ false
each-none f [] e = absurd cc
each-none f (value ∷ values) e =
    bind_none (list_all (λ value. is_some (f value)) (value ∷ values) ≡ false) (f value) (λ x. each f values >>= λ xs. Some (x ∷ xs))
    (λ none. ap (λ o. is_some o && list_all (λ value. is_some (f value)) values) none)
    (λ x is rest. bind_none (list_all (λ value. is_some (f value)) (value ∷ values) ≡ false) (each f values) (λ xs. Some (x ∷ xs))
    (λ none. right_false (is_some (f value)) (list_all (λ value. is_some (f value)) values) (each-none f values none)) (λ xs are made. absurd cc) rest) e

two : {A B X : Type 0} (a : Option A) (b : Option B) (make : A → B → X) → is_some (a >>= λ x. b >>= λ y. Some (make x y)) ≡ false → (is_some a && (is_some b && true)) ≡ false
two None b make h = refl
two (Some x) None make h = refl
two (Some x) (Some y) make h = absurd cc

none_made : {A B : Type 0} (o : Option A) (make : A → B) → is_some (o >>= λ x. Some (make x)) ≡ false → o ≡ None
none_made None make h = refl
none_made (Some x) make h = absurd cc

three : (n : ℕ) (name : Option (List ℕ)) (stands : Option (List Data)) (make : List ℕ → List ℕ → Group)
    → is_some (name >>= λ x. stands >>= λ values. each (number_within 1 n) values >>= λ numbers. Some (make x numbers)) ≡ false
    → (is_some name && (option_map_or (are_within n) stands false && true)) ≡ false
three n None stands make h = refl
three n (Some x) None make h = refl
three n (Some x) (Some values) make h = ap (λ b. b && true) (each-none (number_within 1 n) values (none_made (each (number_within 1 n) values) (make x) h))

constituency_fails : (n : ℕ) (value : Data) → is_some (constituency_from value) ≡ false → list_all (λ check. check.1) (table_checks faults.Range kinds.Constituency n value) ≡ false
constituency_fails n value h =
    let made : List ℕ → ℕ → Constituency = λ name persons. record { name = name; persons = persons } in
    two (get (codes "name") value >>= name_of) (get (codes "persons") value >>= number_within 1 10000000) made h

municipality_fails : (n : ℕ) (value : Data) → is_some (municipality_from n value) ≡ false → list_all (λ check. check.1) (table_checks faults.Range kinds.Municipality n value) ≡ false
municipality_fails n value h =
    let made : List ℕ → ℕ → Municipality = λ name constituency. record { name = name; constituency = constituency } in
    two (get (codes "name") value >>= name_of) (get (codes "constituency") value >>= number_within 1 n) made h

group_fails : (n : ℕ) (value : Data) → is_some (group_from n value) ≡ false → list_all (λ check. check.1) (table_checks faults.Range kinds.Group n value) ≡ false
group_fails n value h =
    let made : List ℕ → List ℕ → Group = λ name numbers. record { name = name; stands = stands_of n numbers } in
    three n (get (codes "name") value >>= name_of) (get (codes "stands") value >>= values_of) made h

-- the values that were read are those that are checked for a place
under : (key : List ℕ) (most : ℕ) (document : Members) (values : List Data) → values_at key most document ≡ Some values → values_under key document ≡ values
under key most document values e =
    let a = bind_some (get_member key document >>= values_of) (λ all. cond (nat_le (length all) most) (Some all) None) values e in
    let g = guard_some (nat_le (length a.0) most) a.0 values a.2 in
    ap (λ (o : Option (List Data)). unwrap_or o []) a.1 ∙ g.1

-- a value of a kind that can't be read has a place there
values_fail : {X : Type 0} (kind : Kind) (key : List ℕ) (most : ℕ) (document : Members) (read : Data → Option X) (values : List Data)
    → ((value : Data) → is_some (read value) ≡ false → list_all (λ check. check.1) (table_checks faults.Range kind (constituencies_in document) value) ≡ false)
    → values_at key most document ≡ Some values → each read values ≡ None → is_some (first_of faults.Range kind key document) ≡ true
values_fail kind key most document read values says found none =
    in_tables faults.Range kind key document (λ value. is_some (read value)) says
    (subst (λ (all : List Data). list_all (λ value. is_some (read value)) all ≡ false) (sym (under key most document values found)) (each-none read values none))

-- a check at the top fails
fails_at : (document : Members) (place : ℕ) → place < 6 → (get_or (top_checks faults.Range document) place (keys.Name, true)).1 ≡ false → HasPlace faults.Range document
fails_at document place within h = at_top faults.Range document (list_all_at (λ check. check.1) (top_checks faults.Range document) place (keys.Name, true) within h)

-- as many constituencies were read as there are in the document
as_many : (document : Members) (constituencies : List Constituency)
    → (values_at (codes "constituency") 32 document >>= each constituency_from) ≡ Some constituencies → length constituencies
    ≡ constituencies_in document
as_many document constituencies e =
    let a = bind_some (values_at (codes "constituency") 32 document) (each constituency_from) constituencies e in
    let few = (values_at-some (codes "constituency") 32 document a.0 a.1).1 in
    let same = ap (λ (all : List Data). min (length all) 32) (under (codes "constituency") 32 document a.0 a.1) in
    omega (arith, length-each constituency_from a.0 constituencies a.2, few, same)

constituencies_fail : (document : Members) → (values_at (codes "constituency") 32 document >>= each constituency_from) ≡ None → HasPlace faults.Range document
constituencies_fail document e =
    bind_none (HasPlace faults.Range document) (values_at (codes "constituency") 32 document) (each constituency_from)
    (λ none. fails_at document 2 (omega arith) (ap is_some none)) (λ values found none.
    in_constituencies faults.Range document (values_fail kinds.Constituency (codes "constituency") 32 document constituency_from values (constituency_fails (constituencies_in document)) found none)) e

municipalities_fail : (document : Members) (n : ℕ) → n ≡ constituencies_in document
    → (values_at (codes "municipality") 512 document >>= each (municipality_from n)) ≡ None → HasPlace faults.Range document
municipalities_fail document n many e =
    let here : (values_at (codes "municipality") 512 document >>= each (municipality_from (constituencies_in document))) ≡ None =
    subst (λ (k : ℕ). (values_at (codes "municipality") 512 document >>= each (municipality_from k)) ≡ None) many e in
    bind_none (HasPlace faults.Range document) (values_at (codes "municipality") 512 document) (each (municipality_from (constituencies_in document)))
    (λ none. fails_at document 3 (omega arith) (ap is_some none)) (λ values found none.
    in_municipalities faults.Range document
    (values_fail kinds.Municipality (codes "municipality") 512 document (municipality_from (constituencies_in document)) values
    (municipality_fails (constituencies_in document)) found none)) here

groups_fail : (document : Members) (n : ℕ) → n ≡ constituencies_in document → (values_at (codes "group") 32 document >>= each (group_from n)) ≡ None → HasPlace faults.Range document
groups_fail document n many e =
    let here : (values_at (codes "group") 32 document >>= each (group_from (constituencies_in document))) ≡ None =
    subst (λ (k : ℕ). (values_at (codes "group") 32 document >>= each (group_from k)) ≡ None) many e in
    bind_none (HasPlace faults.Range document) (values_at (codes "group") 32 document) (each (group_from (constituencies_in document)))
    (λ none. fails_at document 4 (omega arith) (ap is_some none)) (λ values found none.
    in_groups faults.Range document (values_fail kinds.Group (codes "group") 32 document (group_from (constituencies_in document)) values (group_fails (constituencies_in document)) found none)) here

range_placed : (document : Members) → setup_of document ≡ None → HasPlace faults.Range document
range_placed document e =
    let P : Type 0 = HasPlace faults.Range document in
    let version = get_member (codes "version") document >>= number_within 1 2 in
    let house = get_member (codes "house") document >>= number_within 1 400 in
    let constituencies = values_at (codes "constituency") 32 document >>= each constituency_from in
    let municipalities = λ (n : ℕ). values_at (codes "municipality") 512 document >>= each (municipality_from n) in
    let groups = λ (n : ℕ). values_at (codes "group") 32 document >>= each (group_from n) in
    let quorum = quorum_of (get_member (codes "canton_quorum") document) in
    bind_none P version (λ v. house >>= λ h. constituencies >>= λ cs. municipalities (length cs) >>= λ ms. groups (length cs) >>= λ gs. quorum >>= λ q. Some (made_of h cs ms gs q))
    (λ none. fails_at document 0 (omega arith) (ap is_some none)) (λ v v_is e.
    bind_none P house (λ h. constituencies >>= λ cs. municipalities (length cs) >>= λ ms. groups (length cs) >>= λ gs. quorum >>= λ q. Some (made_of h cs ms gs q))
    (λ none. fails_at document 1 (omega arith) (ap is_some none)) (λ h h_is e.
    bind_none P constituencies (λ cs. municipalities (length cs) >>= λ ms. groups (length cs) >>= λ gs. quorum >>= λ q. Some (made_of h cs ms gs q))
    (constituencies_fail document) (λ cs cs_is e.
    bind_none P (municipalities (length cs)) (λ ms. groups (length cs) >>= λ gs. quorum >>= λ q. Some (made_of h cs ms gs q))
    (municipalities_fail document (length cs) (as_many document cs cs_is)) (λ ms ms_is e.
    bind_none P (groups (length cs)) (λ gs. quorum >>= λ q. Some (made_of h cs ms gs q))
    (groups_fail document (length cs) (as_many document cs cs_is)) (λ gs gs_is e.
    bind_none P quorum (λ q. Some (made_of h cs ms gs q))
    (λ none. fails_at document 5 (omega arith) (ap is_some none)) (λ q q_is made. absurd cc) e) e) e) e) e) e
  where
    made_of : ℕ → List Constituency → List Municipality → List Group → Option ℕ → Canton
    made_of h cs ms gs q = record { house = h; constituencies = cs; municipalities = ms; groups = gs; canton_quorum = q }

-- every fault of a document has a place in it
pub fault_placed : (document : Members) (fault : SetupFault) → checked document ≡ Err fault → is_some (fault_place fault document) ≡ true
fault_placed document fault e =
    by_check (λ fault. HasPlace fault document) (misses_key document) (has_other_key document) (has_double document) (setup_of document) fault
    (missing_placed document) (unknown_placed document) (range_placed document) (double_placed document) e
