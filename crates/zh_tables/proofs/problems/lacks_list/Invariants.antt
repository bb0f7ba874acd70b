use Rattle.std.proofs.Common.{◌≡◌, ◌≤◌, ℕ, false}
use Rattle.zh_districts.specs.Canton.{stands}
use Rattle.zh_tables.proofs.problems.lacks_list.Given as goal

abbrev pub invariant-loop-place : goal.invariant-loop-place
invariant-loop-place l = (g : ℕ) → 1 ≤ g → g ≤ l.place → stands l.fn.setup l.constituency g ≡ false
