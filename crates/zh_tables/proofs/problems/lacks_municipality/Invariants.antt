use Rattle.std.proofs.Common.{◌≢◌, ◌≤◌, ℕ}
use Rattle.zh_districts.specs.Canton.{constituency_of}
use Rattle.zh_tables.proofs.problems.lacks_municipality.Given as goal

abbrev pub invariant-loop-place : goal.invariant-loop-place
invariant-loop-place l = (m : ℕ) → 1 ≤ m → m ≤ l.place → constituency_of l.fn.setup m ≢ l.constituency
