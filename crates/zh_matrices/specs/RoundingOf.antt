-- The definition of each kind of rounding.
use Rattle.std.specs.Prelude.{ℕ}
use Rattle.zh_divisors.specs.Rounding.{Rounds}
use Rattle.zh_matrices.specs.NearlyTied.{NearlyRounds}
use Rattle.zh_matrices.specs.SeatMatrix.{MayRound}
use Rattle.zh_matrices.specs.declared.rounding.Rounding.{Rounding}
use Rattle.zh_matrices.specs.declared.rounding.Rounding.TheVariants.{Near, Strict, Weak}

abbrev pub RoundsBy : Rounding → ℕ → ℕ → ℕ → Type 0
RoundsBy Strict = Rounds
RoundsBy Weak = MayRound
RoundsBy Near = NearlyRounds
