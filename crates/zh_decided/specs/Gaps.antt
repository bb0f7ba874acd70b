-- How close a matrix is to a tie, by its prices.
use Rattle.std.specs.Prelude.{◌^◌, ◌<◌, ◌≤◌}
use Rattle.zh_decided.specs.Prices.{Priced}
use Rattle.zh_decided.specs.Sweeps.{IsCycle, StandsFree}
use Rattle.zh_decided.specs.declared.sweeps.Gap.{Gap}

-- a slack with which the sweep ends at potentials, and a larger one with which there is a cycle
pub record IsGap (m : Priced) (gap : Gap) : Type 0 where
  pub below : gap.still_at < gap.cycle_at
  pub small : gap.cycle_at ≤ 2 ^ 36
  pub still : StandsFree m gap.still_at 0 gap.potentials
  pub cycle : IsCycle m gap.cycle_at gap.cycle
