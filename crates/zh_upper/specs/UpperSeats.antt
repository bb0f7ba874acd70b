-- The seats of each group in the whole canton: GPR section 103.
use Rattle.std.specs.Prelude.{◌≡◌, ℕ, Bool, false, Some, List, map, filter, length, slice_get, slice_index}
use Rattle.std.specs.List.{zip}
use Rattle.zh_divisors.specs.Fit.{IsStrictFit}
use Rattle.zh_divisors.specs.Shares.{Apportionment}

-- the numbers of the groups that take part, from a list of numbers that has one for each group
abbrev pub of_participants : List ℕ → List Bool → List ℕ
of_participants numbers taking = map (λ x. x.0) (filter (λ x. x.1) (zip numbers taking))

-- the seats of the house are apportioned to the groups that take part, in proportion to their voter sums and with no tie; each
-- other group gets 0
pub record AreUpperSeats (voters : List ℕ) (taking : List Bool) (house : ℕ) (seats : List ℕ) : Type 0 where
  pub one_each : length seats ≡ length voters
  pub in_proportion : IsStrictFit (of_participants voters taking) house (of_participants seats taking)
  pub others : (place : ℕ) → slice_get taking place ≡ Some false → slice_index seats place ≡ 0

-- the seats of the groups that take part, with the divisor
abbrev pub shares_of_participants : Apportionment → List Bool → Apportionment
shares_of_participants shares taking = record shares { seats = of_participants shares.seats taking }
