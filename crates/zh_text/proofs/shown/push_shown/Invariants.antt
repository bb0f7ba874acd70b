use Rattle.std.proofs.Common.{◌≡◌, ◌++◌}
use Rattle.zh_text.specs.Each.{each_to}
use Rattle.zh_text.specs.Shown.{shown_at}
use Rattle.zh_text.proofs.shown.push_shown.Given as goal

abbrev pub invariant-loop-place : goal.invariant-loop-place
invariant-loop-place l = l.text.items ≡ l.fn.text.items ++ each_to l.place (shown_at l.named l.shown)
