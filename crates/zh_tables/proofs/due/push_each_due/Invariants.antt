use Rattle.std.proofs.Common.{◌≡◌, ◌++◌}
use Rattle.zh_text.specs.Each.{each_to}
use Rattle.zh_tables.specs.Returns.{due_of}
use Rattle.zh_tables.proofs.due.push_each_due.Given as goal

abbrev pub invariant-loop-place : goal.invariant-loop-place
invariant-loop-place l = l.due.items ≡ l.fn.due.items ++ each_to l.place (due_of l.fn.setup l.fn.municipality)
