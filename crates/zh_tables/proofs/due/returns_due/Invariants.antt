use Rattle.std.proofs.Common.{◌≡◌}
use Rattle.zh_text.specs.Each.{each_to}
use Rattle.zh_tables.specs.Returns.{returns_within}
use Rattle.zh_tables.proofs.due.returns_due.Given as goal

abbrev pub invariant-loop-place : goal.invariant-loop-place
invariant-loop-place l = l.due.items ≡ each_to l.place (returns_within l.fn.setup l.fn.part)
