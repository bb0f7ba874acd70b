use Rattle.std.proofs.Common.{◌++◌, ◌≡◌}
use Rattle.zh_text.specs.Each.{each_to}
use Rattle.zh_sheet_text.specs.Lots.{tied_list_line, range_of}
use Rattle.zh_sheet_text.proofs.lots.push_listed_in.Given as goal

abbrev pub invariant-loop-place : goal.invariant-loop-place
invariant-loop-place l = l.out.items
    ≡ l.fn.out.items ++ each_to l.place (λ place. tied_list_line l.fn.setup l.fn.listed (range_of l.fn.lists l.fn.constituency place))
