-- The keys of a set-up text: missing and unknown ones.
use Rattle.std.specs.Prelude.{ℕ, Bool, true, false, not, ◌&&◌, if◌then◌else◌, pos, List, [], ◌∷◌, is_some, option_and_then, codes}
use Rattle.std.specs.Prelude.{Option, Some, None}
use Rattle.std.specs.Option.{option_map_or}
use Rattle.std.specs.List.{list_all, list_any}
use Rattle.std.specs.Ordering.{int_eq}
use Rattle.std.specs.Str.{bytes_eq}
use Rattle.toml.specs.Data.{Data, Items, no_items, item, Members, no_members, member, table}
use Rattle.toml.specs.Data.{get, get_member, as_table, as_array, as_integer}
use Rattle.zh_setups.specs.declared.place.Kind.{Kind}
use Rattle.zh_setups.specs.declared.place.Kind.TheVariants as kinds

-- the values of an array
abbrev pub list_of : Items → List Data
list_of no_items = []
list_of (item value values) = value ∷ list_of values

-- whether a value is a table
abbrev pub is_table : Data → Bool
is_table value = is_some (as_table value)

-- the tables in an array of tables; for any other value the list is empty, for example for an array with one value that is not
-- a table
abbrev pub tables_of : Data → List Data
tables_of value = option_map_or (λ items. if list_all is_table (list_of items) then list_of items else []) (as_array value) []

-- the tables in the array of tables at a key of the document
abbrev pub tables_at : List ℕ → Members → List Data
tables_at key document = option_map_or tables_of (get_member key document) []

-- the table has each of these keys
abbrev pub has_keys : List (List ℕ) → Data → Bool
has_keys keys value = list_all (λ key. is_some (get key value)) keys

-- each key of the members is in this list
abbrev pub knows_keys : List (List ℕ) → Members → Bool
knows_keys keys no_members = true
knows_keys keys (member key _ others) = list_any (λ known. bytes_eq known key) keys && knows_keys keys others

-- the first key of the members, in their order, that is not in this list
abbrev pub first_other : List (List ℕ) → Members → Option (List ℕ)
first_other keys no_members = None
first_other keys (member key _ others) = if list_any (λ known. bytes_eq known key) keys then first_other keys others else Some key

-- each key of a table is in this list; a value of another type has no keys
abbrev pub knows_keys_of : List (List ℕ) → Data → Bool
knows_keys_of keys value = option_map_or (knows_keys keys) (as_table value) true

-- the keys that are required at the top
abbrev pub document_keys : List (List ℕ)
document_keys = codes "version" ∷ codes "house" ∷ codes "constituency" ∷ codes "municipality" ∷ codes "group" ∷ []

-- whether the version is the integer 2
abbrev pub is_version_2 : Members → Bool
is_version_2 document =
    option_map_or (λ version. int_eq version (pos 2)) (option_and_then as_integer (get_member (codes "version") document)) false

-- the keys that are allowed at the top: in version 2 also that of a canton-wide quorum
abbrev pub known_keys : Members → List (List ℕ)
known_keys document = if is_version_2 document then codes "canton_quorum" ∷ document_keys else document_keys

-- the keys of a table of this kind, all of them required
abbrev pub own_keys : Kind → List (List ℕ)
own_keys kinds.Constituency = codes "name" ∷ codes "persons" ∷ []
own_keys kinds.Municipality = codes "name" ∷ codes "constituency" ∷ []
own_keys kinds.Group = codes "name" ∷ codes "stands" ∷ []

-- a required key is missing, at the top or in a table
abbrev pub misses_key : Members → Bool
misses_key document =
    not (
    has_keys document_keys (table document)
    && list_all (has_keys (own_keys kinds.Constituency)) (tables_at (codes "constituency") document)
    && list_all (has_keys (own_keys kinds.Municipality)) (tables_at (codes "municipality") document)
    && list_all (has_keys (own_keys kinds.Group)) (tables_at (codes "group") document)
    )

-- there is an unknown key, at the top or in a table
abbrev pub has_other_key : Members → Bool
has_other_key document =
    not (
    knows_keys (known_keys document) document
    && list_all (knows_keys_of (own_keys kinds.Constituency)) (tables_at (codes "constituency") document)
    && list_all (knows_keys_of (own_keys kinds.Municipality)) (tables_at (codes "municipality") document)
    && list_all (knows_keys_of (own_keys kinds.Group)) (tables_at (codes "group") document)
    )
