use Rattle.std.proofs.Common.{◌++◌, ◌≡◌, codes, length}
use Rattle.zh_text.specs.Each.{each_to}
use Rattle.zh_sheet_text.specs.Refusals.{seats_line_of}
use Rattle.zh_sheet_text.proofs.refusals.push_only_seats.Given as goal

abbrev pub invariant-loop-place : goal.invariant-loop-place
invariant-loop-place l = l.out.items
    ≡ (l.fn.out.items ++ codes ": no sheet, but these are the only seats") ++ each_to l.place (λ d. each_to (length l.fn.lists.groups) (seats_line_of l.fn.lists d))
