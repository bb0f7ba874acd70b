-- Every fault of a document has a place in it.
use Rattle.std.proofs.Common.{◌≡◌, ℕ, Bool, true, false, cond, not, ◌&&◌, ◌||◌, List, Option, Some, None, option_map, Err, codes, refl, ap, subst}
use Rattle.std.specs.Prelude.{is_some}
use Rattle.std.specs.List.{list_all, list_any}
use Rattle.std.specs.Option.{option_or}
use Rattle.toml.specs.Data.{Data, Members, table}
use Rattle.zh_districts.specs.Canton.{Canton}
use Rattle.zh_setups.specs.Document.{undoubled, has_double, repeats, same_name, same_number, stands_in}
use Rattle.zh_setups.specs.Keys.{tables_at, has_keys, knows_keys, knows_keys_of, document_keys, known_keys, own_keys, misses_key, has_other_key}
use Rattle.zh_setups.specs.Places.{constituencies_in, fault_place, first_failing, first_of, first_table, looked_into, namesake_of, table_checks, top_checks}
use Rattle.zh_setups.specs.declared.text.SetupFault.{SetupFault}
use Rattle.zh_setups.specs.declared.text.SetupFault.TheVariants as faults
use Rattle.zh_setups.specs.declared.place.FaultPlace.{FaultPlace}
use Rattle.zh_setups.specs.declared.place.FaultPlace.TheVariants as places
use Rattle.zh_setups.specs.declared.place.Key.{Key}
use Rattle.zh_setups.specs.declared.place.Kind.{Kind}
use Rattle.zh_setups.specs.declared.place.Kind.TheVariants as kinds
use Rattle.zh_setups.proofs.EachLemmas.{same_fault}
use Rattle.zh_setups.proofs.FoundLemmas.{any_fails, in_first, in_second, key_found, namesake_found, table_found}

-- the fault has a place
abbrev pub HasPlace : SetupFault → Members → Type 0
HasPlace fault document = is_some (fault_place fault document) ≡ true

-- the places found at the top and in the tables of each kind
abbrev top : SetupFault → Members → Option FaultPlace
top fault document = option_map places.Top (first_failing (top_checks fault document))

abbrev of_constituencies : SetupFault → Members → Option FaultPlace
of_constituencies fault document = first_of fault kinds.Constituency (codes "constituency") document

abbrev of_municipalities : SetupFault → Members → Option FaultPlace
of_municipalities fault document = first_of fault kinds.Municipality (codes "municipality") document

abbrev of_groups : SetupFault → Members → Option FaultPlace
of_groups fault document = first_of fault kinds.Group (codes "group") document

some_top : (found : Option Key) → is_some found ≡ true → is_some (option_map places.Top found) ≡ true
some_top None h = absurd cc
some_top (Some key) h = refl

pub at_top : (fault : SetupFault) (document : Members) → list_all (λ check. check.1) (top_checks fault document) ≡ false → HasPlace fault document
at_top fault document h =
    in_first (top fault document) (option_or (of_constituencies fault document) (option_or (of_municipalities fault document) (of_groups fault document)))
    (some_top (first_failing (top_checks fault document)) (key_found (top_checks fault document) h))

pub in_constituencies : (fault : SetupFault) (document : Members) → is_some (of_constituencies fault document) ≡ true → HasPlace fault document
in_constituencies fault document h =
    in_second (top fault document) (option_or (of_constituencies fault document) (option_or (of_municipalities fault document) (of_groups fault document)))
    (in_first (of_constituencies fault document) (option_or (of_municipalities fault document) (of_groups fault document)) h)

pub in_municipalities : (fault : SetupFault) (document : Members) → is_some (of_municipalities fault document) ≡ true → HasPlace fault document
in_municipalities fault document h =
    in_second (top fault document) (option_or (of_constituencies fault document) (option_or (of_municipalities fault document) (of_groups fault document)))
    (in_second (of_constituencies fault document) (option_or (of_municipalities fault document) (of_groups fault document))
    (in_first (of_municipalities fault document) (of_groups fault document) h))

pub in_groups : (fault : SetupFault) (document : Members) → is_some (of_groups fault document) ≡ true → HasPlace fault document
in_groups fault document h =
    in_second (top fault document) (option_or (of_constituencies fault document) (option_or (of_municipalities fault document) (of_groups fault document)))
    (in_second (of_constituencies fault document) (option_or (of_municipalities fault document) (of_groups fault document))
    (in_second (of_municipalities fault document) (of_groups fault document) h))

-- the key with this fault in a table
abbrev key_in : SetupFault → Kind → Members → Data → Option Key
key_in fault kind document value = first_failing (table_checks fault kind (constituencies_in document) value)

-- one of the tables of a kind fails a test, and a table that fails it has a key with this fault
pub in_tables : (fault : SetupFault) (kind : Kind) (key : List ℕ) (document : Members) (passes : Data → Bool)
    → ((value : Data) → passes value ≡ false → list_all (λ check. check.1) (table_checks fault kind (constituencies_in document) value)
    ≡ false) → list_all passes (looked_into fault key document) ≡ false
    → is_some (first_of fault kind key document) ≡ true
in_tables fault kind key document passes says h =
    in_second (namesake_of fault kind (looked_into fault key document)) (first_table (key_in fault kind document) kind 1 (looked_into fault key document))
    (table_found (key_in fault kind document) passes (λ value e. key_found (table_checks fault kind (constituencies_in document) value) (says value e)) kind 1 (looked_into fault key document) h)

-- ---- missing and unknown keys

one_fails : (P : Type 0) (a b c d : Bool) → (a ≡ false → P) → (b ≡ false → P) → (c ≡ false → P) → (d ≡ false → P) → not (a && b && c && d) ≡ true → P
one_fails P false b c d of_a of_b of_c of_d h = of_a refl
one_fails P true false c d of_a of_b of_c of_d h = of_b refl
one_fails P true true false d of_a of_b of_c of_d h = of_c refl
one_fails P true true true false of_a of_b of_c of_d h = of_d refl
one_fails P true true true true of_a of_b of_c of_d h = absurd cc

pub missing_placed : (document : Members) → misses_key document ≡ true → HasPlace faults.Missing document
missing_placed document h =
    one_fails (HasPlace faults.Missing document) (has_keys document_keys (table document)) (list_all (has_keys (own_keys kinds.Constituency)) (tables_at (codes "constituency") document))
    (list_all (has_keys (own_keys kinds.Municipality)) (tables_at (codes "municipality") document)) (list_all (has_keys (own_keys kinds.Group)) (tables_at (codes "group") document))
    (λ e. at_top faults.Missing document e)
    (λ e. in_constituencies faults.Missing document (in_tables faults.Missing kinds.Constituency (codes "constituency") document (has_keys (own_keys kinds.Constituency)) (λ value fails. fails) e))
    (λ e. in_municipalities faults.Missing document (in_tables faults.Missing kinds.Municipality (codes "municipality") document (has_keys (own_keys kinds.Municipality)) (λ value fails. fails) e))
    (λ e. in_groups faults.Missing document (in_tables faults.Missing kinds.Group (codes "group") document (has_keys (own_keys kinds.Group)) (λ value fails. fails) e)) h

alone : (b : Bool) → b ≡ false → (b && true) ≡ false
alone b h = ap (λ x. x && true) h

pub unknown_placed : (document : Members) → has_other_key document ≡ true → HasPlace faults.Unknown document
unknown_placed document h =
    one_fails (HasPlace faults.Unknown document) (knows_keys (known_keys document) document) (list_all (knows_keys_of (own_keys kinds.Constituency)) (tables_at (codes "constituency") document))
    (list_all (knows_keys_of (own_keys kinds.Municipality)) (tables_at (codes "municipality") document)) (list_all (knows_keys_of (own_keys kinds.Group)) (tables_at (codes "group") document))
    (λ e. at_top faults.Unknown document (alone (knows_keys (known_keys document) document) e))
    (λ e. in_constituencies faults.Unknown document (in_tables faults.Unknown kinds.Constituency (codes "constituency") document
    (knows_keys_of (own_keys kinds.Constituency)) (λ value. alone (knows_keys_of (own_keys kinds.Constituency) value)) e))
    (λ e. in_municipalities faults.Unknown document (in_tables faults.Unknown kinds.Municipality (codes "municipality") document
    (knows_keys_of (own_keys kinds.Municipality)) (λ value. alone (knows_keys_of (own_keys kinds.Municipality) value)) e))
    (λ e. in_groups faults.Unknown document
    (in_tables faults.Unknown kinds.Group (codes "group") document (knows_keys_of (own_keys kinds.Group))
    (λ value. alone (knows_keys_of (own_keys kinds.Group) value)) e)) h

-- ---- repeated names and numbers

one_holds : (P : Type 0) (a b c d : Bool) → (a ≡ true → P) → (b ≡ true → P) → (c ≡ true → P) → (d ≡ true → P) → (a || b || c || d) ≡ true → P
one_holds P true b c d of_a of_b of_c of_d h = of_a refl
one_holds P false true c d of_a of_b of_c of_d h = of_b refl
one_holds P false false true d of_a of_b of_c of_d h = of_c refl
one_holds P false false false true of_a of_b of_c of_d h = of_d refl
one_holds P false false false false of_a of_b of_c of_d h = absurd cc

-- two tables of one kind have the same name
in_names : (kind : Kind) (key : List ℕ) (document : Members) → repeats same_name (tables_at key document) ≡ true → is_some (first_of faults.Double kind key document) ≡ true
in_names kind key document h =
    in_first (namesake_of faults.Double kind (tables_at key document))
    (first_table (key_in faults.Double kind document) kind 1 (tables_at key document)) (namesake_found kind (tables_at key document) h)

pub double_placed : (document : Members) → has_double document ≡ true → HasPlace faults.Double document
double_placed document h =
    one_holds (HasPlace faults.Double document) (repeats same_name (tables_at (codes "constituency") document)) (repeats same_name (tables_at (codes "municipality") document))
    (repeats same_name (tables_at (codes "group") document)) (list_any (λ value. repeats same_number (stands_in value)) (tables_at (codes "group") document))
    (λ e. in_constituencies faults.Double document (in_names kinds.Constituency (codes "constituency") document e))
    (λ e. in_municipalities faults.Double document (in_names kinds.Municipality (codes "municipality") document e))
    (λ e. in_groups faults.Double document (in_names kinds.Group (codes "group") document e))
    (λ e. in_groups faults.Double document
    (in_tables faults.Double kinds.Group (codes "group") document (λ value. not (repeats same_number (stands_in value)))
    (λ value. alone (not (repeats same_number (stands_in value))))
    (any_fails (λ value. repeats same_number (stands_in value)) (tables_at (codes "group") document) e))) h

-- ---- each fault

pub by_check : (P : SetupFault → Type 0) (misses other double : Bool) (wanted : Option Canton) (fault : SetupFault)
    → (misses ≡ true → P faults.Missing) → (other ≡ true → P faults.Unknown) → (wanted ≡ None → P faults.Range)
    → (double ≡ true → P faults.Double) → cond misses (Err faults.Missing) (cond other (Err faults.Unknown) (undoubled double wanted)) ≡ Err fault → P fault
by_check P true other double wanted fault of_missing of_unknown of_range of_double e = subst P (same_fault {X = Canton} faults.Missing fault e) (of_missing refl)
by_check P false true double wanted fault of_missing of_unknown of_range of_double e = subst P (same_fault {X = Canton} faults.Unknown fault e) (of_unknown refl)
by_check P false false double None fault of_missing of_unknown of_range of_double e = subst P (same_fault {X = Canton} faults.Range fault e) (of_range refl)
by_check P false false true (Some canton) fault of_missing of_unknown of_range of_double e = subst P (same_fault {X = Canton} faults.Double fault e) (of_double refl)
by_check P false false false (Some canton) fault of_missing of_unknown of_range of_double e = absurd cc
