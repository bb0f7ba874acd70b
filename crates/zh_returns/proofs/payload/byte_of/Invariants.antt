use Rattle.std.proofs.Common.{◌≡◌, take}
use Rattle.zh_districts.specs.Spelling.{mask_of}
use Rattle.zh_returns.proofs.payload.byte_of.Given as goal

abbrev pub invariant-loop-place : goal.invariant-loop-place
invariant-loop-place l = l.byte ≡ mask_of (take l.place l.flags)
