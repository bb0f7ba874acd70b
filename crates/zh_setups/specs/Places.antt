-- The place of a fault in a set-up text: the first key whose check fails, first at the top and then table by table.
use Rattle.std.specs.Prelude.{◌+◌, ℕ, Bool, false, not, if◌then◌else◌, List, [], ◌∷◌, ◌++◌, length, map, min}
use Rattle.std.specs.Prelude.{Option, Some, None, is_some, option_map, unwrap_or, codes}
use Rattle.std.specs.Option.{option_map_or, option_or}
use Rattle.std.specs.List.{list_all, list_any}
use Rattle.toml.specs.Data.{Data, Members, as_table, get, get_member}
use Rattle.zh_setups.specs.Keys.{first_other, known_keys, knows_keys, knows_keys_of, own_keys, tables_at}
use Rattle.zh_setups.specs.Document.{◌>>=◌, name_of, number_within, quorum_of, repeats, same_name, same_number, stands_in}
use Rattle.zh_setups.specs.Document.{values_at, values_of}
use Rattle.zh_setups.specs.Names.{cut_key, key_name}
use Rattle.zh_setups.specs.declared.text.SetupFault.{SetupFault}
use Rattle.zh_setups.specs.declared.text.SetupFault.TheVariants as faults
use Rattle.zh_setups.specs.declared.place.Key.{Key}
use Rattle.zh_setups.specs.declared.place.Key.TheVariants as keys
use Rattle.zh_setups.specs.declared.place.Kind.{Kind}
use Rattle.zh_setups.specs.declared.place.Kind.TheVariants as kinds
use Rattle.zh_setups.specs.declared.place.FaultPlace.{FaultPlace}
use Rattle.zh_setups.specs.declared.place.FaultPlace.TheVariants as places

-- the first key whose check fails
abbrev pub first_failing : List (Key × Bool) → Option Key
first_failing [] = None
first_failing (check ∷ checks) = if check.1 then first_failing checks else Some check.0

-- an unknown key as a refusal names it; if there is none, the name is empty
abbrev pub other_key : Option (List ℕ) → Key
other_key found = keys.Other (cut_key (unwrap_or found []))

-- whether the value at a key at the top is a number within its limits
abbrev pub number_at_top : List ℕ → ℕ → ℕ → Members → Bool
number_at_top key low high document = is_some (get_member key document >>= number_within low high)

-- each of these values is the number of one of n constituencies
abbrev pub are_within : ℕ → List Data → Bool
are_within n values = list_all (λ value. is_some (number_within 1 n value)) values

-- a group's `stands` is a non-empty array of numbers of constituencies, of which there are n
abbrev pub stands_within : ℕ → Data → Bool
stands_within n value = option_map_or (are_within n) (get (codes "stands") value >>= values_of) false

-- the checks of a fault at the top
abbrev pub top_checks : SetupFault → Members → List (Key × Bool)
top_checks faults.Missing document =
    map (λ key. (key, is_some (get_member (key_name key) document)))
    (keys.Version ∷ keys.House ∷ keys.Constituency ∷ keys.Municipality ∷ keys.Group ∷ [])
top_checks faults.Range document =
    (keys.Version, number_at_top (codes "version") 1 2 document) ∷ (keys.House, number_at_top (codes "house") 1 400 document)
    ∷ (keys.Constituency, is_some (values_at (codes "constituency") 32 document))
    ∷ (keys.Municipality, is_some (values_at (codes "municipality") 512 document))
    ∷ (keys.Group, is_some (values_at (codes "group") 32 document))
    ∷ (keys.CantonQuorum, is_some (quorum_of (get_member (codes "canton_quorum") document))) ∷ []
top_checks faults.Unknown document =
    (other_key (first_other (known_keys document) document), knows_keys (known_keys document) document) ∷ []
top_checks fault document = []

-- the key that a table has besides `name`, and whether it is there
abbrev pub missing_check : Kind → Data → Key × Bool
missing_check kinds.Constituency value = (keys.Persons, is_some (get (codes "persons") value))
missing_check kinds.Municipality value = (keys.Constituency, is_some (get (codes "constituency") value))
missing_check kinds.Group value = (keys.Stands, is_some (get (codes "stands") value))

-- the key that a table has besides `name`, and whether its value is within its limits, with n constituencies
abbrev pub range_check : Kind → ℕ → Data → Key × Bool
range_check kinds.Constituency n value = (keys.Persons, is_some (get (codes "persons") value >>= number_within 1 10000000))
range_check kinds.Municipality n value = (keys.Constituency, is_some (get (codes "constituency") value >>= number_within 1 n))
range_check kinds.Group n value = (keys.Stands, stands_within n value)

-- whether a group names no constituency twice; other tables have no such check
abbrev pub double_checks : Kind → Data → List (Key × Bool)
double_checks kinds.Group value = (keys.Stands, not (repeats same_number (stands_in value))) ∷ []
double_checks kind value = []

-- the checks of a fault in a table, with n constituencies
abbrev pub table_checks : SetupFault → Kind → ℕ → Data → List (Key × Bool)
table_checks faults.Missing kind n value = (keys.Name, is_some (get (codes "name") value)) ∷ missing_check kind value ∷ []
table_checks faults.Range kind n value = (keys.Name, is_some (get (codes "name") value >>= name_of)) ∷ range_check kind n value ∷ []
table_checks faults.Unknown kind n value =
    (other_key (as_table value >>= first_other (own_keys kind)), knows_keys_of (own_keys kind) value) ∷ []
table_checks faults.Double kind n value = double_checks kind value
table_checks fault kind n value = []

-- the first of these tables in which `key` finds a key; the first table has this number
abbrev pub first_table : (Data → Option Key) → Kind → ℕ → List Data → Option FaultPlace
first_table key kind number [] = None
first_table key kind number (value ∷ values) =
    option_map_or (λ found. Some (places.Table kind number found)) (key value) (first_table key kind (number + 1) values)

-- the first of these tables that has the same name as an earlier one, or as one of those in `before`; the first table has this
-- number
abbrev pub first_namesake : Kind → ℕ → List Data → List Data → Option FaultPlace
first_namesake kind number before [] = None
first_namesake kind number before (value ∷ values) =
    if list_any (same_name value) before then Some (places.Table kind number keys.Name)
    else first_namesake kind (number + 1) (before ++ value ∷ []) values

-- the first of these tables that has the same name as an earlier one, if the fault is `Double`
abbrev pub namesake_of : SetupFault → Kind → List Data → Option FaultPlace
namesake_of faults.Double kind values = first_namesake kind 1 [] values
namesake_of fault kind values = None

-- the values of the array at a key of the document, or the empty list if there is no array
abbrev pub values_under : List ℕ → Members → List Data
values_under key document = unwrap_or (get_member key document >>= values_of) []

-- the number of values in the array of constituencies, or 32 if there are more
abbrev pub constituencies_in : Members → ℕ
constituencies_in document = min (length (values_under (codes "constituency") document)) 32

-- the values to check for a fault: for `Range` those of any array, for other faults only those of an array of tables
abbrev pub looked_into : SetupFault → List ℕ → Members → List Data
looked_into faults.Range key document = values_under key document
looked_into fault key document = tables_at key document

abbrev pub first_of : SetupFault → Kind → List ℕ → Members → Option FaultPlace
first_of fault kind key document =
    option_or (namesake_of fault kind (looked_into fault key document))
    (first_table (λ value. first_failing (table_checks fault kind (constituencies_in document) value)) kind 1
    (looked_into fault key document))

-- the place of this fault in a document: at the top, or else in the first kind of table that has it
abbrev pub fault_place : SetupFault → Members → Option FaultPlace
fault_place fault document =
    option_or (option_map places.Top (first_failing (top_checks fault document)))
    (option_or (first_of fault kinds.Constituency (codes "constituency") document)
    (option_or (first_of fault kinds.Municipality (codes "municipality") document)
    (first_of fault kinds.Group (codes "group") document)))
