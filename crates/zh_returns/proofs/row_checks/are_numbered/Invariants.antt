use Rattle.std.proofs.Common.{take}
use Rattle.std.specs.Prelude.{All}
use Rattle.zh_returns.specs.RowBytes.{rows_in}
use Rattle.zh_returns.specs.Rows.{IsSpeakableRow}
use Rattle.zh_returns.proofs.row_checks.are_numbered.Given as goal

abbrev pub invariant-loop-i : goal.invariant-loop-i
invariant-loop-i l = All IsSpeakableRow (take l.i (rows_in l.bytes))
