use Rattle.std.proofs.Common.{◌≡◌, take}
use Rattle.zh_check.proofs.reasons.each_seats.Given as goal

-- the seats of the groups so far
abbrev pub invariant-loop-place : goal.invariant-loop-place
invariant-loop-place l = l.seats.items ≡ take l.place l.upper.seats
