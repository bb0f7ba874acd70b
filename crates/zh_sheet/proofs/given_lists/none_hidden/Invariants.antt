use Rattle.std.proofs.Common.{ℕ, ◌≤◌}
use Rattle.zh_totals.specs.Hidden.{NoneHiddenIn}
use Rattle.zh_sheet.proofs.given_lists.none_hidden.Given as goal

abbrev pub invariant-loop-place : goal.invariant-loop-place
invariant-loop-place l = (d : ℕ) → 1 ≤ d → d ≤ l.place → NoneHiddenIn l.totals d
