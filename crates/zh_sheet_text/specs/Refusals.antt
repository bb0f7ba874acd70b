-- The parts of the report of why there are no seats; 10 is LF, 32 is a space.
use Rattle.std.specs.Prelude.{ℕ, ◌-◌, Bool, nat_lt, if◌then◌else◌, List, [], ◌∷◌, ◌++◌, length, slice_index, codes, decimal}
use Rattle.zh_districts.specs.Canton.{Canton}
use Rattle.zh_decided.specs.Impossible.{is_among}
use Rattle.zh_matrices.specs.Question.{cell}
use Rattle.zh_sheet.specs.ListSeats.{SeatsOfLists}
use Rattle.zh_sheet.specs.declared.reason.ExhaustedReason.{ExhaustedReason}
use Rattle.zh_sheet.specs.declared.reason.ExhaustedReason.TheVariants.{Beyond, Impossible, NearlyTied}
use Rattle.zh_commands.specs.Replies.{answer}
use Rattle.zh_commands.specs.declared.replies.Reply.TheVariants as replies
use Rattle.zh_commands.specs.declared.replies.Refusal.{Refusal}
use Rattle.zh_text.specs.Each.{each_to}

-- the line of a refusal
abbrev pub refusal_line : Refusal → List ℕ
refusal_line refusal = codes "zhcount: " ++ (answer (replies.Refused refusal) ++ 10 ∷ [])

-- a space and the number of a constituency, if it is marked
abbrev pub number_if_among : List Bool → ℕ → List ℕ
number_if_among marked d = if is_among marked (d - 1) then 32 ∷ decimal d else []

-- the line of a list, if it has seats: its constituency, its group, its seats
abbrev pub seats_line : ℕ → ℕ → ℕ → List ℕ
seats_line d g seats = if nat_lt 0 seats then 10 ∷ decimal d ++ 32 ∷ decimal g ++ 32 ∷ decimal seats else []

-- the line of the list of constituency d and of the group at a place in `groups`, counted from 1
abbrev pub seats_line_of : SeatsOfLists → ℕ → ℕ → List ℕ
seats_line_of x d place = seats_line d (slice_index x.groups (place - 1)) (cell (length x.groups) x.seats (d - 1) (place - 1))

-- the only seats that there are, for which no sheet was found: a line for each list that has some
abbrev pub only_seats_text : SeatsOfLists → List ℕ
only_seats_text x =
    codes ": no sheet, but these are the only seats"
    ++ each_to x.constituencies (λ d. each_to (length x.groups) (seats_line_of x d))

-- the reason of an exhausted search: the constituencies whose groups have too few seats, the constituency and the group of a near tie, or
-- the only seats
abbrev pub reason_text : Canton → ExhaustedReason → List ℕ
reason_text canton (Impossible marked) =
    codes "impossible" ++ each_to (length canton.constituencies) (number_if_among marked)
reason_text canton (NearlyTied d g) = codes "nearly tied" ++ 32 ∷ decimal d ++ 32 ∷ decimal g
reason_text canton (Beyond x) = codes "beyond" ++ only_seats_text x
