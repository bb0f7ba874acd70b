use Rattle.std.proofs.Common.{◌≡◌, ℕ, ◌<◌, if◌then◌else◌, nat_lt, slice_index}
use Rattle.zh_decided.proofs.impossible.bound_by_votes.Given as goal

abbrev pub invariant-loop-place : goal.invariant-loop-place
invariant-loop-place l = (k : ℕ) → k < l.place → slice_index l.most k ≡ (if nat_lt 0 (slice_index l.question.votes.now k) then 401 else 0)
