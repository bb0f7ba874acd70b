-- The set-up that a text describes, computed from the text's TOML table.
use Rattle.std.specs.Prelude.{ℕ, Bool, false, ◌&&◌, ◌||◌, ◌==◌, nat_le, if◌then◌else◌, ℤ, pos, List, [], ◌∷◌, length}
use Rattle.std.specs.Prelude.{map, Option, Some, None, option_and_then, Result, Ok, Err, codes}
use Rattle.std.specs.List.{list_any, range_with_len}
use Rattle.std.specs.Ordering.{int_eq}
use Rattle.std.specs.Option.{unwrap_or}
use Rattle.std.specs.Str.{bytes_eq}
use Rattle.toml.specs.Data.{Data, Members, string, integer, get, get_member, as_array, as_str, as_integer}
use Rattle.zh_districts.specs.Canton.{Canton, Constituency, Municipality, Group, is_name}
use Rattle.zh_setups.specs.Keys.{list_of, tables_at, misses_key, has_other_key}
use Rattle.zh_setups.specs.declared.text.SetupFault.{SetupFault}
use Rattle.zh_setups.specs.declared.text.SetupFault.TheVariants.{Missing, Unknown, Range, Double}

-- the next step, if the step before gave a value
infixl 10 ◌>>=◌
abbrev pub ◌>>=◌ : {A B : Type 0} → Option A → (A → Option B) → Option B
o >>= f = option_and_then f o

-- the value as a number, if it is a whole number from low to high
abbrev pub number_within : ℕ → ℕ → Data → Option ℕ
number_within low high (integer (pos n)) = if nat_le low n && nat_le n high then Some n else None
number_within low high _ = None

-- the value as a text, if it is a text that is a name
abbrev pub name_of : Data → Option (List ℕ)
name_of (string text) = if is_name text then Some text else None
name_of _ = None

-- what each value is read as, if each of them can be read
abbrev pub each : {X : Type 0} → (Data → Option X) → List Data → Option (List X)
each read [] = Some []
each read (value ∷ values) = do
  first ← read value
  others ← each read values
  Some (first ∷ others)

-- the values of a non-empty array
abbrev pub values_of : Data → Option (List Data)
values_of value = do
  items ← as_array value
  if nat_le 1 (length (list_of items)) then Some (list_of items) else None

-- the values of the array at a key of the document, if there are 1 to `most` of them
abbrev pub values_at : List ℕ → ℕ → Members → Option (List Data)
values_at key most document = do
  values ← get_member key document >>= values_of
  if nat_le (length values) most then Some values else None

-- the constituency that a table describes
abbrev pub constituency_from : Data → Option Constituency
constituency_from value = do
  name ← get (codes "name") value >>= name_of
  persons ← get (codes "persons") value >>= number_within 1 10000000
  Some (record { name = name; persons = persons })

-- the municipality that a table describes, given the number of constituencies
abbrev pub municipality_from : ℕ → Data → Option Municipality
municipality_from constituencies value = do
  name ← get (codes "name") value >>= name_of
  constituency ← get (codes "constituency") value >>= number_within 1 constituencies
  Some (record { name = name; constituency = constituency })

-- for each constituency, whether its number is in this list
abbrev pub stands_of : ℕ → List ℕ → List Bool
stands_of constituencies numbers = map (λ d. list_any (λ n. n == d) numbers) (range_with_len 1 constituencies)

-- the group that a table describes, given the number of constituencies
abbrev pub group_from : ℕ → Data → Option Group
group_from constituencies value = do
  name ← get (codes "name") value >>= name_of
  values ← get (codes "stands") value >>= values_of
  numbers ← each (number_within 1 constituencies) values
  Some (record { name = name; stands = stands_of constituencies numbers })

-- a canton-wide quorum in per mille, 1 to 49, which is optional
abbrev pub quorum_of : Option Data → Option (Option ℕ)
quorum_of None = Some None
quorum_of (Some value) = do
  per_mille ← number_within 1 49 value
  Some (Some per_mille)

-- the set-up, if every value has the right type and is within its limits
abbrev pub setup_of : Members → Option Canton
setup_of document = do
  version ← get_member (codes "version") document >>= number_within 1 2
  house ← get_member (codes "house") document >>= number_within 1 400
  constituencies ← values_at (codes "constituency") 32 document >>= each constituency_from
  municipalities ← values_at (codes "municipality") 512 document >>= each (municipality_from (length constituencies))
  groups ← values_at (codes "group") 32 document >>= each (group_from (length constituencies))
  canton_quorum ← quorum_of (get_member (codes "canton_quorum") document)
  Some (record {
    house = house;
    constituencies = constituencies;
    municipalities = municipalities;
    groups = groups;
    canton_quorum = canton_quorum;
  })

-- a value is the same as a later one in the list
abbrev pub repeats : (Data → Data → Bool) → List Data → Bool
repeats same [] = false
repeats same (value ∷ values) = list_any (same value) values || repeats same values

-- the name in a table, or the empty text if it has none
abbrev pub name_in : Data → List ℕ
name_in value = unwrap_or (get (codes "name") value >>= as_str) []

-- the values of the array `stands` in the table of a group
abbrev pub stands_in : Data → List Data
stands_in value = unwrap_or (get (codes "stands") value >>= values_of) []

-- two tables have the same name
abbrev pub same_name : Data → Data → Bool
same_name a b = bytes_eq (name_in a) (name_in b)

-- two whole numbers are equal
abbrev pub same_integer : Option ℤ → Option ℤ → Bool
same_integer (Some m) (Some n) = int_eq m n
same_integer _ _ = false

-- two values are the same integer
abbrev pub same_number : Data → Data → Bool
same_number a b = same_integer (as_integer a) (as_integer b)

-- two constituencies, two municipalities or two groups share a name, or a group names a constituency twice
abbrev pub has_double : Members → Bool
has_double document =
    repeats same_name (tables_at (codes "constituency") document)
    || repeats same_name (tables_at (codes "municipality") document)
    || repeats same_name (tables_at (codes "group") document)
    || list_any (λ value. repeats same_number (stands_in value)) (tables_at (codes "group") document)

-- no set-up means that a value has the wrong type or is out of range; a set-up is refused if it has a double
abbrev pub undoubled : Bool → Option Canton → Result Canton SetupFault
undoubled double None = Err Range
undoubled double (Some canton) = if double then Err Double else Ok canton

-- the set-up, or the first fault: each check covers the whole document before the next one
abbrev pub checked : Members → Result Canton SetupFault
checked document =
    if misses_key document then Err Missing
    else if has_other_key document then Err Unknown
    else undoubled (has_double document) (setup_of document)
