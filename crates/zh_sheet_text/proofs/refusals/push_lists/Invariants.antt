use Rattle.std.proofs.Common.{◌++◌, ◌≡◌}
use Rattle.zh_text.specs.Each.{each_to}
use Rattle.zh_sheet_text.specs.Refusals.{seats_line_of}
use Rattle.zh_sheet_text.proofs.refusals.push_lists.Given as goal

abbrev pub invariant-loop-place : goal.invariant-loop-place
invariant-loop-place l = l.out.items ≡ l.fn.out.items ++ each_to l.place (seats_line_of l.fn.lists l.fn.constituency)
