use Rattle.std.proofs.Common.{[], take}
use Rattle.zh_disk.specs.Calls.{pending_after, IsCalm}
use Rattle.zh_disk.proofs.stop.copy_pending.Given as goal

-- places that are not pending after the first i calls are equal
abbrev pub invariant-loop-i : goal.invariant-loop-i
invariant-loop-i l = IsCalm l.to l.from (pending_after [] (take l.i l.calls))
