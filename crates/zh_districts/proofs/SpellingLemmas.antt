-- The bytes of a set-up are those of its parts, one after another.
use Rattle.std.proofs.Common.{◌≡◌, ℕ, List, ◌∷◌, ◌++◌, length, map, refl}
use Rattle.std.specs.Int.{w16, to_be_bytes}
use Rattle.std.specs.List.{flat_map}
use Rattle.std.proofs.lemmas.List.{length-map}
use Rattle.zh_districts.specs.Canton.{Canton}
use Rattle.zh_districts.specs.Inside.{canton_of}
use Rattle.zh_districts.specs.Parts.{constituency, municipality, group}
use Rattle.zh_districts.specs.Spelling.{constituency_spelling, municipality_spelling, group_spelling, quorum_spelling, setup_spelling}
use Rattle.zh_districts.specs.declared.setup.Setup.TheInside.{Inside}

-- the house, the constituencies, the municipalities, the groups and the quorum, each appended to what was written before it
pub spelled : (s : Inside) (canton : Canton) (house constituencies municipalities groups quorum : List ℕ)
    → canton_of s ≡ canton → house ≡ to_be_bytes w16 s.house
    → constituencies ≡ house ++ (length s.constituencies.items ∷ flat_map constituency_spelling (map constituency s.constituencies.items))
    → municipalities ≡ constituencies ++ (to_be_bytes w16 (length s.municipalities.items) ++ flat_map municipality_spelling (map municipality s.municipalities.items))
    → groups ≡ municipalities ++ (length s.groups.items ∷ flat_map group_spelling (map group s.groups.items))
    → quorum ≡ groups ++ quorum_spelling s.canton_quorum
    → quorum ≡ setup_spelling canton
spelled s canton house constituencies municipalities groups quorum view h c m g q =
    rw (q, g, m, c, h, ← view, ← length-map s.constituencies.items constituency, ← length-map s.municipalities.items municipality, ← length-map s.groups.items group) refl
