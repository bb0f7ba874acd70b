-- The text of the rehearsal describes the rehearsal's set-up.
use Rattle.std.proofs.Common.{◌≡◌, ℕ, List, pos, Some, Result, Ok, Err, codes, refl, ◌∙◌, sym, lit≤}
use Rattle.toml.specs.Data.{Data, Members, no_items, item, no_members, member, string, integer, array, table}
use Rattle.toml.specs.Parse.{parse_document}
use Rattle.toml.proofs.OnLiterals.{toml_on_literals}
use Rattle.zh_districts.specs.Canton.{Canton}
use Rattle.zh_setups.specs.Document.{checked}
use Rattle.zh_setups.specs.SetupText.{reading_of}
use Rattle.zh_setups.specs.Rehearsal.{rehearsal}
use Rattle.zh_setups.specs.declared.text.SetupFault.{SetupFault}
use Rattle.std.proofs.lemmas.Str.{IsUtf8-from_is_utf8}
use Rattle.zh_setups.proofs.AsciiLemmas.{ascii}
use Rattle.zh_setups.proofs.SetupTextLemmas.{reading_of-table}

abbrev numbers : Data
numbers = array (item (integer (pos 1)) (item (integer (pos 2)) (item (integer (pos 3)) no_items)))

abbrev constituency_table : List ℕ → ℕ → Data
constituency_table name persons =
    table (member (codes "name") (string name) (member (codes "persons") (integer (pos persons)) no_members))

abbrev municipality_table : List ℕ → ℕ → Data
municipality_table name constituency =
    table (member (codes "constituency") (integer (pos constituency)) (member (codes "name") (string name) no_members))

abbrev group_table : List ℕ → Data
group_table name = table (member (codes "name") (string name) (member (codes "stands") numbers no_members))

abbrev three : Data → Data → Data → Data
three a b c = array (item a (item b (item c no_items)))

-- the table of the text
abbrev pub rehearsal_table : Members
rehearsal_table =
    member (codes "constituency")
    (three (constituency_table (codes "Nord") 5000) (constituency_table (codes "Mitte") 3000) (constituency_table (codes "West") 2000))
    (member (codes "group") (three (group_table (codes "A")) (group_table (codes "B")) (group_table (codes "C")))
    (member (codes "house") (integer (pos 10))
    (member (codes "municipality")
    (three (municipality_table (codes "N") 1) (municipality_table (codes "M") 2) (municipality_table (codes "W") 3))
    (member (codes "version") (integer (pos 1)) no_members))))

abbrev pub rehearsal_text : List ℕ
rehearsal_text = codes "version = 1\nhouse = 10\n[[constituency]]\nname = \"Nord\"\npersons = 5000\n[[constituency]]\nname = \"Mitte\"\npersons = 3000\n[[constituency]]\nname = \"West\"\npersons = 2000\n[[municipality]]\nname = \"N\"\nconstituency = 1\n[[municipality]]\nname = \"M\"\nconstituency = 2\n[[municipality]]\nname = \"W\"\nconstituency = 3\n[[group]]\nname = \"A\"\nstands = [1, 2, 3]\n[[group]]\nname = \"B\"\nstands = [1, 2, 3]\n[[group]]\nname = \"C\"\nstands = [1, 2, 3]\n"

pub parsed : parse_document rehearsal_text ≡ Some rehearsal_table
unfolding toml_on_literals
parsed = refl

pub checks : checked rehearsal_table ≡ Ok rehearsal
checks = rw (
  ascii (codes "Nord") refl,
  ascii (codes "Mitte") refl,
  ascii (codes "West") refl,
  ascii (codes "N") refl,
  ascii (codes "M") refl,
  ascii (codes "W") refl,
  ascii (codes "A") refl,
  ascii (codes "B") refl,
  ascii (codes "C") refl,
) refl

abbrev gives : Canton → Result Canton SetupFault
gives x = Ok x

abbrev fails : SetupFault → Result Canton SetupFault
fails fault = Err fault

same_ok : (x y : Canton) → gives x ≡ gives y → x ≡ y
same_ok x y e = cc

-- a set-up that is read from the text is that of the rehearsal
pub is_rehearsal : (setup : Canton) → reading_of rehearsal_text ≡ Ok setup → setup ≡ rehearsal
is_rehearsal setup e =
    let text = rehearsal_text in
    let read = reading_of-table text rehearsal_table (lit≤ tt) (IsUtf8-from_is_utf8 text (ascii text refl)) parsed in
    same_ok setup rehearsal (sym e ∙ read ∙ checks)

-- the text has no fault
pub is_no_fault : (fault : SetupFault) → reading_of rehearsal_text ≡ Err fault → ⊥
is_no_fault fault e =
    let text = rehearsal_text in
    let read = reading_of-table text rehearsal_table (lit≤ tt) (IsUtf8-from_is_utf8 text (ascii text refl)) parsed in
    apart fault (sym e ∙ read ∙ checks)
  where
    apart : (fault : SetupFault) → fails fault ≡ Ok rehearsal → ⊥
    apart fault h = cc
