use Rattle.std.proofs.Common.{◌≡◌, ◌<◌, ℕ, [], take, length}
use Rattle.std.specs.Prelude.{slice_index}
use Rattle.zh_disk.specs.Disk.{IsSettled}
use Rattle.zh_disk.specs.Calls.{pending_after}
use Rattle.zh_disk.proofs.stop.fill_pending.Given as goal

abbrev pub invariant-loop-i : goal.invariant-loop-i
invariant-loop-i l = record {
  fewer : (k : ℕ) → IsSettled (pending_after [] l.calls) k → IsSettled (pending_after [] (take l.i l.calls)) k;
  kept : (k : ℕ) → IsSettled (pending_after [] l.calls) k → slice_index l.bytes k ≡ slice_index l.initial.bytes k;
  filled : (k : ℕ) → k < length l.initial.bytes → IsSettled (pending_after [] (take l.i l.calls)) k → (IsSettled (pending_after [] l.calls) k → ⊥) → slice_index l.bytes k ≡ l.value;
}
