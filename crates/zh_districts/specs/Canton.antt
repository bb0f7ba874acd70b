-- The set-up of an election: the house, the constituencies with their municipalities, the groups of lists, and a canton-wide
-- quorum, if there is one.
use Rattle.std.specs.Prelude.{◌≡◌, ◌≢◌, ℕ, ◌-◌, ◌≤◌, Bool, true, false, not, ◌&&◌, ◌==◌, nat_le, IsTrue, Option, IfSome}
use Rattle.std.specs.Prelude.{List, length, slice_get, slice_index, unwrap_or, map, All, AllPairs, Contains}
use Rattle.std.specs.List.{list_all}
use Rattle.std.specs.Str.{is_utf8}
use Rattle.std.specs.Option.{option_map_or}

-- a constituency: its name in UTF-8, and the number of its persons
pub record Constituency : Type 0 where
  pub name : List ℕ
  pub persons : ℕ

-- a municipality: its name in UTF-8, and the number of its constituency, from 1
pub record Municipality : Type 0 where
  pub name : List ℕ
  pub constituency : ℕ

-- a group, which has one list number in the whole canton: its name in UTF-8, and for each constituency, in order, whether it
-- stands there
pub record Group : Type 0 where
  pub name : List ℕ
  pub stands : List Bool

-- a set-up; its constituencies, municipalities and groups are each numbered from 1 in the order of the list; the canton-wide
-- quorum, if there is one, is in per mille of the votes of the whole canton
pub record Canton : Type 0 where
  pub house : ℕ
  pub constituencies : List Constituency
  pub municipalities : List Municipality
  pub groups : List Group
  pub canton_quorum : Option ℕ

-- whether the set-up has a municipality with this number
abbrev pub has_municipality : Canton → ℕ → Bool
has_municipality canton m = nat_le 1 m && nat_le m (length canton.municipalities)

-- the persons of constituency d, from 1; 0 if there is no such constituency
abbrev pub persons_of : Canton → ℕ → ℕ
persons_of canton d = option_map_or (λ x. x.persons) (slice_get canton.constituencies (d - 1)) 0

-- the number of the constituency in which municipality m, from 1, lies; 0 if there is no such municipality
abbrev pub constituency_of : Canton → ℕ → ℕ
constituency_of canton m = option_map_or (λ x. x.constituency) (slice_get canton.municipalities (m - 1)) 0

-- whether the list with this number stands in constituency d, from 1
abbrev pub stands : Canton → ℕ → ℕ → Bool
stands canton d list =
    nat_le 1 list && option_map_or (λ x. unwrap_or (slice_get x.stands (d - 1)) false) (slice_get canton.groups (list - 1)) false

-- whether a byte is none of the control characters U+0000 to U+001F and U+007F; in UTF-8 each of these is one byte, and this
-- byte is part of no other character
abbrev pub is_printable : ℕ → Bool
is_printable byte = nat_le 32 byte && not (byte == 127)

-- whether a text has 1 to 40 bytes, none of these control characters, and no space at either end
abbrev pub is_plain : List ℕ → Bool
is_plain name =
    nat_le 1 (length name) && nat_le (length name) 40 && not (slice_index name 0 == 32)
    && not (slice_index name (length name - 1) == 32) && list_all is_printable name

-- whether a text is a name: UTF-8, and plain as above
abbrev pub is_name : List ℕ → Bool
is_name name = is_utf8 name && is_plain name

-- the names of all constituencies, of all municipalities or of all groups
pub record AreNames (names : List (List ℕ)) : Type 0 where
  pub rule : All (λ name. IsTrue (is_name name)) names
  pub different : AllPairs (λ a b. a ≢ b) names

-- the limits of a set-up
pub record IsCanton (canton : Canton) : Type 0 where
  pub house : (1 ≤ canton.house) × (canton.house ≤ 400)
  pub constituencies : (1 ≤ length canton.constituencies) × (length canton.constituencies ≤ 32)
  pub municipalities : (1 ≤ length canton.municipalities) × (length canton.municipalities ≤ 512)
  pub groups : (1 ≤ length canton.groups) × (length canton.groups ≤ 32)
  pub persons : All (λ x. (1 ≤ x.persons) × (x.persons ≤ 10000000)) canton.constituencies
  pub within : All (λ x. (1 ≤ x.constituency) × (x.constituency ≤ length canton.constituencies)) canton.municipalities
  pub stands : All (λ x. length x.stands ≡ length canton.constituencies) canton.groups
  pub somewhere : All (λ x. Contains x.stands true) canton.groups
  pub constituency_names : AreNames (map (λ x. x.name) canton.constituencies)
  pub municipality_names : AreNames (map (λ x. x.name) canton.municipalities)
  pub group_names : AreNames (map (λ x. x.name) canton.groups)
  pub canton_quorum : IfSome canton.canton_quorum (λ q. (1 ≤ q) × (q ≤ 49))
