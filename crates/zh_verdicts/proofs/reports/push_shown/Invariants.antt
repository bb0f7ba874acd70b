use Rattle.std.proofs.Common.{◌≡◌, ◌≤◌, ◌+◌, ◌++◌, length}
use Rattle.zh_text.specs.Each.{each_to}
use Rattle.zh_verdicts.specs.Reports.{safe_byte}
use Rattle.zh_verdicts.proofs.reports.push_shown.Given as goal

abbrev pub invariant-loop-place : goal.invariant-loop-place
invariant-loop-place g l = record {
  shown : l.shown.items ≡ l.fn.shown.items ++ each_to l.place (safe_byte l.text);
  short : length l.shown.items ≤ length l.fn.shown.items + l.place;
}
