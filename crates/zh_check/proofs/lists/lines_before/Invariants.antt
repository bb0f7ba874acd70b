use Rattle.std.proofs.Common.{◌≡◌, ◌≤◌, ◌+◌}
use Rattle.zh_check.specs.Cells.{line_of_list}
use Rattle.zh_check.proofs.lists.lines_before.Given as goal

-- the line of the next list
abbrev pub invariant-loop-earlier : goal.invariant-loop-earlier
invariant-loop-earlier l = record {
  line : l.before + 1 ≡ line_of_list l.setup l.earlier;
  few : l.before ≤ 69 + l.earlier;
}
