use Rattle.std.proofs.Common.{◌≡◌, ◌/◌, ◌%◌, ◌<◌, ℕ, false, get_or}
use Rattle.std.specs.List.{slice_index}
use Rattle.zh_returns.specs.Tables.{bit_of}
use Rattle.zh_returns.proofs.payload.read_flags.Given as goal

abbrev pub invariant-loop-place : goal.invariant-loop-place
invariant-loop-place l = (k : ℕ) → k < l.place → get_or l.flags k false ≡ bit_of (slice_index l.bytes (k / 8)) (k % 8)
