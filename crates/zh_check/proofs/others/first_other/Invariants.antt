use Rattle.std.proofs.Common.{◌≡◌, ◌<◌, ℕ, slice_index}
use Rattle.zh_check.proofs.others.first_other.Given as goal

-- the votes at all earlier places are the same
abbrev pub invariant-loop-place : goal.invariant-loop-place
invariant-loop-place l = (k : ℕ) → k < l.place → slice_index l.votes k ≡ slice_index l.held k
