-- The bytes of a set-up. Numbers are big endian.
use Rattle.std.specs.Prelude.{ℕ, ◌+◌, ◌*◌, Bool, if◌then◌else◌, Option, List, [], ◌∷◌, ◌++◌, length}
use Rattle.std.specs.List.{flat_map}
use Rattle.std.specs.Int.{w16, w32, to_be_bytes}
use Rattle.std.specs.Option.{option_map_or}
use Rattle.zh_districts.specs.Canton.{Canton, Constituency, Municipality, Group}

-- the length of the name in one byte, and then the name
abbrev pub name_spelling : List ℕ → List ℕ
name_spelling name = length name ∷ name

-- the number whose bit d - 1 is set if the group stands in constituency d
abbrev pub mask_of : List Bool → ℕ
mask_of [] = 0
mask_of (here ∷ others) = (if here then 1 else 0) + 2 * mask_of others

-- the persons in four bytes, and then the name
abbrev pub constituency_spelling : Constituency → List ℕ
constituency_spelling x = to_be_bytes w32 x.persons ++ name_spelling x.name

-- the number of its constituency in one byte, and then the name
abbrev pub municipality_spelling : Municipality → List ℕ
municipality_spelling x = x.constituency ∷ name_spelling x.name

-- the mask in four bytes, and then the name
abbrev pub group_spelling : Group → List ℕ
group_spelling x = to_be_bytes w32 (mask_of x.stands) ++ name_spelling x.name

-- the canton-wide quorum in two bytes, if there is one; otherwise no bytes
abbrev pub quorum_spelling : Option ℕ → List ℕ
quorum_spelling quorum = option_map_or (to_be_bytes w16) quorum []

-- the house in two bytes; the number of constituencies in one byte, and each of them; the number of municipalities in two bytes,
-- and each of them; the number of groups in one byte, and each of them; and the canton-wide quorum, if there is one
abbrev pub setup_spelling : Canton → List ℕ
setup_spelling canton =
    to_be_bytes w16 canton.house
    ++ (length canton.constituencies ∷ flat_map constituency_spelling canton.constituencies)
    ++ (to_be_bytes w16 (length canton.municipalities) ++ flat_map municipality_spelling canton.municipalities)
    ++ (length canton.groups ∷ flat_map group_spelling canton.groups)
    ++ quorum_spelling canton.canton_quorum
