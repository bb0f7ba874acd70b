use Rattle.std.proofs.Common.{◌≡◌, ◌-◌, ◌^◌, min, take}
use Rattle.zh_check.specs.Lines.{digits_after}
use Rattle.zh_check.proofs.lines.number_of_word.Given as goal

-- the number of the bytes so far, at most 2 ^ 64 - 1
abbrev pub invariant-loop-byte : goal.invariant-loop-byte
invariant-loop-byte l = l.number ≡ min (digits_after 0 (take l.byte-index l.word)) (2 ^ 64 - 1)
