use Rattle.std.proofs.Common.{◌≡◌, ◌-◌}
use Rattle.zh_check.specs.Lines.{after_lines}
use Rattle.zh_check.proofs.lines.Lines.skip.Given as goal

-- the remaining lines are still to be skipped
abbrev pub invariant-loop : goal.invariant-loop
invariant-loop l = after_lines (l.count - l.counter) l.self ≡ after_lines l.count l.fn.self
