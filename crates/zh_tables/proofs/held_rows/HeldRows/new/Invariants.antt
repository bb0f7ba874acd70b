use Rattle.std.proofs.Common.{◌≡◌, ◌≤◌, ◌*◌, length}
use Rattle.zh_text.specs.Each.{each_to}
use Rattle.zh_tables.specs.Returns.{returns_in}
use Rattle.zh_tables.proofs.held_rows.HeldRows.new.Given as goal

abbrev pub invariant-loop-place : goal.invariant-loop-place
invariant-loop-place l = record {
  so_far : l.due ≡ length (each_to l.place (returns_in l.fn.setup));
  few : l.due ≤ 32 * l.place;
}
