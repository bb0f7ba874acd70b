use Rattle.std.proofs.Common.{◌<◌, ℕ, false, get_or, IsTrue}
use Rattle.zh_upper.proofs.ranges.first_marked.Given as goal

abbrev pub invariant-loop-place : goal.invariant-loop-place
invariant-loop-place l = (i : ℕ) → i < l.place → IsTrue (get_or l.marks i false) → ⊥
