-- Reports of a text that is not a set-up, or not an export, in bytes: 10 is LF, 32 the space.
use Rattle.std.specs.Prelude.{ℕ, Bool, ◌==◌, ◌||◌, ◌&&◌, nat_lt, if◌then◌else◌, List, [], ◌∷◌, ◌++◌, length}
use Rattle.std.specs.Prelude.{Option, Some, None, codes, decimal}
use Rattle.std.specs.Char.{is_ascii_alphanumeric}
use Rattle.std.specs.List.{list_all}
use Rattle.zh_csv.specs.Faults.{held_name}
use Rattle.zh_csv.specs.declared.held_sums.HeldFault.{HeldFault}
use Rattle.zh_setups.specs.Names.{key_name, kind_name, setup_name}
use Rattle.zh_setups.specs.declared.text.SetupRefusal.{SetupRefusal}
use Rattle.zh_setups.specs.declared.place.FaultPlace.{FaultPlace}
use Rattle.zh_setups.specs.declared.place.FaultPlace.TheVariants as places
use Rattle.zh_setups.specs.declared.place.Key.{Key}
use Rattle.zh_text.specs.Each.{each_to}
use Rattle.zh_text.specs.Shown.{shown_at}
use Rattle.zh_text.specs.declared.shown.ShownNames.TheVariants as names

-- the byte with this number, from 1, as reports show it: each control character and byte order mark is a question mark
abbrev pub safe_byte : List ℕ → ℕ → List ℕ
safe_byte text number = shown_at names.None text number

-- a letter, a digit, _ or -, which are 95 and 45
abbrev pub is_bare : ℕ → Bool
is_bare byte = is_ascii_alphanumeric byte || (byte == 95) || (byte == 45)

-- a key as reports show it: in quotes, 34, if it is empty or contains any other byte
abbrev pub shown_key : Key → List ℕ
shown_key key =
    if nat_lt 0 (length (key_name key)) && list_all is_bare (key_name key) then key_name key
    else 34 ∷ each_to (length (key_name key)) (safe_byte (key_name key)) ++ 34 ∷ []

-- a place in the text of a set-up: a position, or a key at the top or in a table
abbrev pub setup_place : FaultPlace → List ℕ
setup_place (places.At position) = codes "line " ++ decimal position.line ++ codes ", column " ++ decimal position.column
setup_place (places.Top key) = shown_key key
setup_place (places.Table kind number key) = kind_name kind ++ 32 ∷ decimal number ++ codes ", " ++ shown_key key

-- the line of a place, if it is known
abbrev pub setup_place_line : Option FaultPlace → List ℕ
setup_place_line None = []
setup_place_line (Some place) = setup_place place ++ 10 ∷ []

-- the report for the fault of a set-up text: a line with its name, then one with its place if that is known
abbrev pub setup_report : SetupRefusal → List ℕ
setup_report refusal = setup_name refusal.fault ++ 10 ∷ setup_place_line refusal.place

-- the report for a wrong record of an export
abbrev pub rows_report : HeldFault → List ℕ
rows_report fault = held_name fault ++ 10 ∷ []
