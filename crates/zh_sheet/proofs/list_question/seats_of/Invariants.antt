use Rattle.std.proofs.Common.{◌≡◌, ◌-◌, map, take, get_or}
use Rattle.zh_sheet.proofs.list_question.seats_of.Given as goal

abbrev pub invariant-loop-group : goal.invariant-loop-group
invariant-loop-group l = l.seats.items ≡ map (λ g. get_or l.upper.seats (g - 1) 0) (take l.group-index l.seated)
