use Rattle.std.proofs.Common.{◌≡◌, ◌++◌, length}
use Rattle.zh_returns.specs.Rows.{AreRows}
use Rattle.zh_returns.proofs.batch.Batch.write.Given as goal

abbrev pub invariant-loop-row : goal.invariant-loop-row
invariant-loop-row l = record {
  rows : l.writer.rows ++ l.row-iterator ≡ l.fn.self;
  room : l.writer.room ≡ length l.fn.bytes;
  limits : AreRows l.fn.self;
}
