-- The quotient of a list, which its seats round.
use Rattle.std.specs.Prelude.{ℕ, ◌*◌, ◌/◌, ◌^◌}

-- the quotient of votes and two divisors, in millionths, rounded down; the divisors are in millionths too
abbrev pub quotient : ℕ → ℕ → ℕ → ℕ
quotient votes of_constituency of_group = votes * 10 ^ 18 / (of_constituency * of_group)
