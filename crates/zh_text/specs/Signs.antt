-- The kinds of bytes in a text that is to be shown. 239 187 191 is the byte order mark. 194 followed by a byte from 128 to 159 is a
-- two-byte control character.
use Rattle.std.specs.Prelude.{ℕ, ◌==◌, ◌&&◌, ◌||◌, ◌-◌, nat_le, nat_lt, if◌then◌else◌, Bool, List, [], ◌∷◌, drop, take, get_or}
use Rattle.std.specs.Str.{bytes_eq}
use Rattle.zh_text.specs.declared.signs.Sign.{Sign}
use Rattle.zh_text.specs.declared.signs.Sign.TheVariants.{Mark, Control, Further, Byte}

-- whether a text begins with a byte order mark
abbrev pub begins_mark : List ℕ → Bool
begins_mark text = bytes_eq (take 3 text) (239 ∷ 187 ∷ 191 ∷ [])

-- whether a text begins with a two-byte control character
abbrev pub begins_control : List ℕ → Bool
begins_control text = (get_or text 0 0 == 194) && (nat_le 128 (get_or text 1 0) && nat_lt (get_or text 1 0) 160)

-- whether a byte order mark begins this many bytes before this place
abbrev pub follows_mark : List ℕ → ℕ → ℕ → Bool
follows_mark text place back = nat_le back place && begins_mark (drop (place - back) text)

-- whether a two-byte control character begins one byte before this place
abbrev pub follows_control : List ℕ → ℕ → Bool
follows_control text place = nat_le 1 place && begins_control (drop (place - 1) text)

-- whether the byte at this place is a later byte of a byte order mark or a two-byte control character
abbrev pub is_further : List ℕ → ℕ → Bool
is_further text place = follows_mark text place 1 || (follows_mark text place 2 || follows_control text place)

-- the kind of the byte at this place
abbrev pub sign_at : List ℕ → ℕ → Sign
sign_at text place =
    if begins_mark (drop place text) then Mark
    else if begins_control (drop place text) then Control
    else if is_further text place then Further
    else Byte
