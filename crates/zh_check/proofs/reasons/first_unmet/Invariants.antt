use Rattle.std.proofs.Common.{◌≡◌, ◌<◌, ◌*◌, ℕ, slice_index}
use Rattle.zh_check.specs.Totals.{spaced_sum}
use Rattle.zh_check.proofs.reasons.first_unmet.Given as goal

-- all earlier totals are met
abbrev pub invariant-loop-place : goal.invariant-loop-place
invariant-loop-place l = (k : ℕ) → k < l.place → spaced_sum l.seats (k * l.between) l.terms l.step ≡ slice_index l.totals k
