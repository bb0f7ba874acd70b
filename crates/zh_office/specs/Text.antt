-- The lines of a text. 10 is the byte LF.
use Rattle.std.specs.Prelude.{◌≡◌, ℕ, ◌==◌, if◌then◌else◌, false, List, [], ◌∷◌, ◌++◌, map, take}
use Rattle.std.specs.List.{list_any}

-- the text has no LF
abbrev pub HasNoEnd : List ℕ → Type 0
HasNoEnd text = list_any (λ byte. byte == 10) text ≡ false

-- the lines with a byte before the first one
abbrev pub onto_first : ℕ → List (List ℕ) → List (List ℕ)
onto_first byte [] = []
onto_first byte (line ∷ lines) = (byte ∷ line) ∷ lines

-- the ended lines: what is before each LF
abbrev pub ended : List ℕ → List (List ℕ)
ended [] = []
ended (byte ∷ text) = if byte == 10 then [] ∷ ended text else onto_first byte (ended text)

-- what follows the last LF
abbrev pub unfinished : List ℕ → List ℕ
unfinished [] = []
unfinished (byte ∷ text) = if list_any (λ b. b == 10) (byte ∷ text) then unfinished text else byte ∷ text

-- only the first 121 bytes of a line count
abbrev pub truncated : List ℕ → List ℕ
truncated line = take 121 line

-- the ended lines, each truncated
abbrev pub ended_lines : List ℕ → List (List ℕ)
ended_lines text = map truncated (ended text)

-- a last line that has not ended counts if it has a byte
abbrev pub last_line : List ℕ → List (List ℕ)
last_line [] = []
last_line (byte ∷ line) = truncated (byte ∷ line) ∷ []

-- the lines of a whole text, each truncated
abbrev pub lines_of : List ℕ → List (List ℕ)
lines_of text = ended_lines text ++ last_line (unfinished text)
