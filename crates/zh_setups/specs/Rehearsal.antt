-- The set-up of the rehearsal.
use Rattle.std.specs.Prelude.{ℕ, true, None, List, [], ◌∷◌, codes}
use Rattle.zh_districts.specs.Canton.{Canton, Group}

abbrev pub everywhere : List ℕ → Group
everywhere name = record { name = name; stands = true ∷ true ∷ true ∷ [] }

-- ten seats; Nord, Mitte and West with one municipality each; three groups that stand in every constituency; no canton-wide quorum
abbrev pub rehearsal : Canton
rehearsal = record {
  house = 10;
  constituencies =
      record { name = codes "Nord"; persons = 5000 }
      ∷ record { name = codes "Mitte"; persons = 3000 }
      ∷ record { name = codes "West"; persons = 2000 } ∷ [];
  municipalities =
      record { name = codes "N"; constituency = 1 }
      ∷ record { name = codes "M"; constituency = 2 }
      ∷ record { name = codes "W"; constituency = 3 } ∷ [];
  groups = everywhere (codes "A") ∷ everywhere (codes "B") ∷ everywhere (codes "C") ∷ [];
  canton_quorum = None;
}
