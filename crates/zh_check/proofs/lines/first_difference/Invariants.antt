use Rattle.std.proofs.Common.{◌≡◌, ◌+◌, ◌<◌, ◌≤◌, ℕ, length}
use Rattle.zh_check.specs.Lines.{after_lines, whole_line}
use Rattle.zh_check.proofs.lines.first_difference.Given as goal

-- the rest of all texts, after lines that are the same in two of them
abbrev pub invariant-loop-others : goal.invariant-loop-others
invariant-loop-others l = record {
  lines : l.lines ≡ after_lines l.before l.text;
  others : l.others ≡ after_lines l.before l.expected;
  shown : l.shown_lines ≡ after_lines l.before l.shown;
  same : (k : ℕ) → k < l.before → whole_line (after_lines k l.text) ≡ whole_line (after_lines k l.expected);
  few : l.before + length l.lines ≤ length l.text;
}

abbrev pub decreases-loop-others : goal.decreases-loop-others
decreases-loop-others l = length l.lines
