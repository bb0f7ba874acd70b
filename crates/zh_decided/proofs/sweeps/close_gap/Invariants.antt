use Rattle.std.proofs.Common.{◌-◌, ◌≤◌}
use Rattle.zh_decided.specs.Gaps.{IsGap}
use Rattle.zh_decided.specs.Taken.{priced_in}
use Rattle.zh_decided.proofs.sweeps.close_gap.Given as goal

abbrev pub invariant-loop-gap : goal.invariant-loop-gap
invariant-loop-gap l = record {
  gap : IsGap (priced_in l.priced) l.gap;
  within : l.gap.cycle_at ≤ l.initial.gap.cycle_at;
}

abbrev pub decreases-loop-gap : goal.decreases-loop-gap
decreases-loop-gap l = l.gap.cycle_at - l.gap.still_at
