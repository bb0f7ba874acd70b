-- What a set-up text describes.
use Rattle.std.specs.Prelude.{◌≡◌, ℕ, ◌&&◌, ◌⊎◌, nat_le, if◌then◌else◌, pos, List, length, map, Some}
use Rattle.std.specs.Prelude.{None, option_map, option_and_then, Result, Err, codes}
use Rattle.std.specs.List.{AllZip}
use Rattle.std.specs.Option.{option_map_or}
use Rattle.std.specs.Str.{is_utf8}
use Rattle.toml.specs.Data.{Data, Members, string, integer, get, get_member, as_array}
use Rattle.toml.specs.Parse.{parse_document}
use Rattle.zh_districts.specs.Canton.{Canton, Constituency, Municipality, Group}
use Rattle.zh_setups.specs.Keys.{list_of, tables_at}
use Rattle.zh_setups.specs.Document.{stands_of, checked}
use Rattle.zh_setups.specs.declared.text.SetupFault.{SetupFault}
use Rattle.zh_setups.specs.declared.text.SetupFault.TheVariants.{Text}

-- the set-up in the TOML table that the text parses to, or the first fault
abbrev pub reading_of : List ℕ → Result Canton SetupFault
reading_of text = if nat_le (length text) 1048576 && is_utf8 text then option_map_or checked (parse_document text) (Err Text) else Err Text

-- the table describes this constituency
abbrev pub ConstituencyOf : Data → Constituency → Type 0
ConstituencyOf value x = (get (codes "name") value ≡ Some (string x.name)) × (get (codes "persons") value ≡ Some (integer (pos x.persons)))

-- the table describes this municipality
abbrev pub MunicipalityOf : Data → Municipality → Type 0
MunicipalityOf value x =
    (get (codes "name") value ≡ Some (string x.name))
    × (get (codes "constituency") value ≡ Some (integer (pos x.constituency)))

-- the table describes this group, given the number of constituencies: its `stands` lists the numbers of those where the group stands
abbrev pub GroupOf : ℕ → Data → Group → Type 0
GroupOf constituencies value x =
    (get (codes "name") value ≡ Some (string x.name))
    × ((numbers : List ℕ)
    × (option_map list_of (option_and_then as_array (get (codes "stands") value)) ≡ Some (map (λ n. integer (pos n)) numbers))
    × (x.stands ≡ stands_of constituencies numbers))

-- the table has this version
abbrev pub HasVersion : Members → ℕ → Type 0
HasVersion document version = get_member (codes "version") document ≡ Some (integer (pos version))

-- the table describes the set-up, part by part; a canton-wide quorum needs version 2
pub record SetupOf (document : Members) (canton : Canton) : Type 0 where
  pub version : (HasVersion document 1 × (canton.canton_quorum ≡ None)) ⊎ HasVersion document 2
  pub house : get_member (codes "house") document ≡ Some (integer (pos canton.house))
  pub constituencies : AllZip ConstituencyOf (tables_at (codes "constituency") document) canton.constituencies
  pub municipalities : AllZip MunicipalityOf (tables_at (codes "municipality") document) canton.municipalities
  pub groups : AllZip (GroupOf (length canton.constituencies)) (tables_at (codes "group") document) canton.groups
  pub canton_quorum : get_member (codes "canton_quorum") document ≡ option_map (λ q. integer (pos q)) canton.canton_quorum

-- the text parses to a table that describes the set-up
abbrev pub Describes : List ℕ → Canton → Type 0
Describes text canton = (document : Members) × (parse_document text ≡ Some document) × SetupOf document canton
