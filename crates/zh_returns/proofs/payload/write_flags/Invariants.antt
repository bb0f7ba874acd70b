use Rattle.std.proofs.Common.{◌≡◌, ◌*◌, ◌<◌, ℕ, take, drop}
use Rattle.std.specs.List.{slice_index}
use Rattle.zh_districts.specs.Spelling.{mask_of}
use Rattle.zh_returns.proofs.payload.write_flags.Given as goal

abbrev pub invariant-loop-byte : goal.invariant-loop-byte
invariant-loop-byte l = (k : ℕ) → k < l.byte → slice_index l.out k ≡ mask_of (take 8 (drop (8 * k) l.flags))
