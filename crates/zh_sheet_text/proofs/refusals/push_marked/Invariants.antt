use Rattle.std.proofs.Common.{◌++◌, ◌≡◌}
use Rattle.zh_text.specs.Each.{each_to}
use Rattle.zh_sheet_text.specs.Refusals.{number_if_among}
use Rattle.zh_sheet_text.proofs.refusals.push_marked.Given as goal

abbrev pub invariant-loop-place : goal.invariant-loop-place
invariant-loop-place l = l.out.items ≡ l.fn.out.items ++ each_to l.place (number_if_among l.fn.marked)
