use Rattle.std.proofs.Common.{arith}
use Rattle.zh_tables.specs.Returns.{returns_in}
use Rattle.zh_tables.proofs.DueLemmas.{length_next}
use Rattle.zh_tables.proofs.held_rows.HeldRows.new.Goals as goal

pub loop-place-preserved : goal.loop-place-preserved
loop-place-preserved c = record {
  so_far = length_next (returns_in c.args.setup.now) c.loop-place.place c.loop-place.due c.due_in-due.result c.loop-place.invariant.so_far c.due_in-due.ensures.due;
  few = omega (arith, c.loop-place.invariant.few, c.due_in-due.ensures.few);
}
