use Rattle.std.proofs.Common.{◌≡◌, drop}
use Rattle.zh_setups.specs.Places.{first_failing}
use Rattle.zh_setups.proofs.checks.first_failing.Given as goal

abbrev pub invariant-loop-check : goal.invariant-loop-check
invariant-loop-check l = first_failing (drop l.check-index l.checks) ≡ first_failing l.checks
