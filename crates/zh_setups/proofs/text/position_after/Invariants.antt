use Rattle.std.proofs.Common.{◌≡◌, ◌≤◌, ◌+◌, take}
use Rattle.zh_setups.specs.Positions.{position_after}
use Rattle.zh_setups.proofs.text.position_after.Given as goal

abbrev pub invariant-loop-byte : goal.invariant-loop-byte
invariant-loop-byte l = record {
  at : l.at ≡ position_after (take l.byte-index l.bytes);
  line : l.at.line ≤ l.byte-index + 1;
  column : l.at.column ≤ l.byte-index + 1;
}
