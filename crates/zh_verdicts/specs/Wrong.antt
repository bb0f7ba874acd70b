-- A wrong line of a sheet, as verdicts show it.
use Rattle.std.specs.Prelude.{ℕ, ◌==◌, ◌&&◌, not, Bool, if◌then◌else◌, codes, decimal}
use Rattle.std.specs.Prelude.{List, [], ◌∷◌, ◌++◌}
use Rattle.std.specs.List.{list_any}
use Rattle.std.specs.Str.{bytes_eq}
use Rattle.zh_text.specs.Shown.{shown_text}
use Rattle.zh_text.specs.declared.shown.ShownNames.TheVariants as names
use Rattle.zh_check.specs.declared.checked.OffTotal.{OffTotal}
use Rattle.zh_check.specs.declared.checked.OtherVotes.{OtherVotes}
use Rattle.zh_check.specs.declared.checked.WrongLine.{WrongLine}

-- a line as verdicts show it, with names for a byte order mark and a CR
abbrev pub shown_line : List ℕ → List ℕ
shown_line line = shown_text names.MarkAndReturn line

-- a line that was found, or `nothing` if it is empty
abbrev pub found_text : List ℕ → List ℕ
found_text [] = codes "nothing"
found_text (byte ∷ line) = shown_line (byte ∷ line)

-- a line lacks only its end if it is what it should be; a line with a dot, 46, does not count, because dots can stand for words
abbrev pub lacks_end : List ℕ → List ℕ → Bool
lacks_end found should = bytes_eq found should && not (list_any (λ byte. byte == 46) should)

-- what the line should be; after the last line there should be no line
abbrev pub should_text : List ℕ → List ℕ → List ℕ
should_text found [] = codes "no line"
should_text found (byte ∷ line) =
    shown_line (byte ∷ line) ++ (if lacks_end found (byte ∷ line) then codes " and a line end" else [])

-- a line with its number
abbrev pub wrong_line : ℕ → List ℕ → List ℕ
wrong_line line found = codes "line " ++ decimal line ++ codes ": " ++ found_text found

-- a wrong line, and what it should be
abbrev pub differs_text : WrongLine → List ℕ
differs_text wrong =
    wrong_line wrong.line wrong.found.items ++ codes ", should be: " ++ should_text wrong.found.items wrong.should.items ++ codes "\n"

-- the line of a constituency or group, and the sum of the seats of its lists
abbrev pub sum_text : OffTotal → List ℕ
sum_text off = wrong_line off.line off.found.items ++ codes ": its lists have " ++ decimal off.seats

-- the line of a constituency or group whose lists do not add up to its seats, the sum, and these seats
abbrev pub total_text : OffTotal → List ℕ
total_text off = sum_text off ++ codes " seats, should be: " ++ decimal off.total ++ codes "\n"

-- the line of a list whose votes differ from those held, and the votes held
abbrev pub held_text : OtherVotes → List ℕ
held_text other = wrong_line other.line other.found.items ++ codes ": the rows held have " ++ decimal other.held ++ codes " votes\n"
