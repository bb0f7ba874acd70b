-- What the parts of a set-up mean.
use Rattle.std.specs.Prelude.{ℕ, Option, List, map, string_bytes}
use Rattle.zh_districts.specs.Canton as canton
use Rattle.zh_districts.specs.declared.setup.Constituency.{Constituency}
use Rattle.zh_districts.specs.declared.setup.Municipality.{Municipality}
use Rattle.zh_districts.specs.declared.setup.Group.{Group}
use Rattle.zh_districts.specs.declared.setup.Draft.{Draft}

-- a constituency by its content, wherever that is in memory
abbrev pub constituency : Constituency → canton.Constituency
constituency x = record { name = string_bytes x.name; persons = x.persons }

-- a municipality
abbrev pub municipality : Municipality → canton.Municipality
municipality x = record { name = string_bytes x.name; constituency = x.constituency }

-- a group
abbrev pub group : Group → canton.Group
group x = record { name = string_bytes x.name; stands = x.stands.items }

-- the set-up of these parts
abbrev pub canton_from : ℕ → List Constituency → List Municipality → List Group → Option ℕ → canton.Canton
canton_from house constituencies municipalities groups canton_quorum = record {
  house = house;
  constituencies = map constituency constituencies;
  municipalities = map municipality municipalities;
  groups = map group groups;
  canton_quorum = canton_quorum;
}

-- the set-up that a draft would make
abbrev pub draft : Draft → canton.Canton
draft d = canton_from d.house d.constituencies.items d.municipalities.items d.groups.items d.canton_quorum
