use Rattle.std.proofs.Common.{◌≡◌, ◌<◌, ◌≤◌, ℕ, true}
use Rattle.std.specs.FinSet as set
use Rattle.zh_office.proofs.queries.first_open.Given as goal

-- the municipalities so far are closed
abbrev pub invariant-loop-municipality : goal.invariant-loop-municipality
invariant-loop-municipality l = (k : ℕ) → 1 ≤ k → k < l.municipality → set.contains l.count.closed k ≡ true
