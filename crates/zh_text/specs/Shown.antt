-- How a text is shown on one line, with nothing that a terminal might act on.
use Rattle.std.specs.Prelude.{ℕ, ◌-◌, ◌==◌, ◌||◌, nat_lt, if◌then◌else◌, List, [], ◌∷◌, codes, get_or, length}
use Rattle.zh_text.specs.Each.{each_to}
use Rattle.zh_text.specs.Signs.{sign_at}
use Rattle.zh_text.specs.declared.shown.ShownNames.{ShownNames}
use Rattle.zh_text.specs.declared.shown.ShownNames.TheVariants as names
use Rattle.zh_text.specs.declared.signs.Sign.{Sign}
use Rattle.zh_text.specs.declared.signs.Sign.TheVariants as signs

-- how a byte order mark and a CR are shown: by name or as a question mark
abbrev pub mark_shown : ShownNames → List ℕ
mark_shown names.None = codes "?"
mark_shown names.Mark = codes "<BOM>"
mark_shown names.MarkAndReturn = codes "<BOM>"

abbrev pub return_shown : ShownNames → List ℕ
return_shown names.None = codes "?"
return_shown names.Mark = codes "?"
return_shown names.MarkAndReturn = codes "<CR>"

-- how a single byte is shown: 13 is CR; any other control character (below 32, or 127) is shown as a question mark
abbrev pub byte_shown : ShownNames → ℕ → List ℕ
byte_shown named byte =
    if byte == 13 then return_shown named else (if nat_lt byte 32 || (byte == 127) then codes "?" else byte ∷ [])

-- how a byte is shown, by its kind: a byte order mark or a two-byte control character is shown at its first byte
abbrev pub sign_shown : ShownNames → Sign → ℕ → List ℕ
sign_shown named signs.Mark byte = mark_shown named
sign_shown named signs.Control byte = codes "?"
sign_shown named signs.Further byte = []
sign_shown named signs.Byte byte = byte_shown named byte

-- how the byte with this number, from 1, is shown
abbrev pub shown_at : ShownNames → List ℕ → ℕ → List ℕ
shown_at named text number = sign_shown named (sign_at text (number - 1)) (get_or text (number - 1) 0)

-- how a whole text is shown
abbrev pub shown_text : ShownNames → List ℕ → List ℕ
shown_text named text = each_to (length text) (shown_at named text)
