use Rattle.std.proofs.Common.{◌≡◌, ◌≤◌, length}
use Rattle.zh_text.specs.Each.{each_to}
use Rattle.zh_tables.specs.Returns.{due_of}
use Rattle.zh_tables.proofs.held_rows.due_in.Given as goal

abbrev pub invariant-loop-place : goal.invariant-loop-place
invariant-loop-place l = record {
  so_far : l.due ≡ length (each_to l.place (due_of l.fn.setup l.fn.municipality));
  few : l.due ≤ l.place;
}
