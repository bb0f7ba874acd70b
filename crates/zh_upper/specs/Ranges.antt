-- How many seats each weight can get if the seats are tied: the range over all fits.
use Rattle.std.specs.Prelude.{◌≡◌, ℕ, ◌<◌, ◌≤◌, Bool, false, Some, List, length, slice_get, slice_index}
use Rattle.zh_divisors.specs.Fit.{IsFit}
use Rattle.zh_upper.specs.UpperSeats.{of_participants}

-- in some fit, weight k has this number of seats
pub record MayHave (weights : List ℕ) (house k number : ℕ) : Type 0 where
  pub seats : List ℕ
  pub fit : IsFit weights house seats
  pub has : slice_index seats k ≡ number

-- in all fits weight k has at least and at most these numbers of seats, and in some fit it has each of the two
pub record HasSeatRange (weights : List ℕ) (house k least most : ℕ) : Type 0 where
  pub at_least : (seats : List ℕ) → IsFit weights house seats → least ≤ slice_index seats k
  pub at_most : (seats : List ℕ) → IsFit weights house seats → slice_index seats k ≤ most
  pub fewest : MayHave weights house k least
  pub greatest : MayHave weights house k most

-- the range of each weight, in order
pub record AreSeatRanges (weights : List ℕ) (house : ℕ) (least most : List ℕ) : Type 0 where
  pub one_least_each : length least ≡ length weights
  pub one_most_each : length most ≡ length weights
  pub each : (k : ℕ) → k < length weights → HasSeatRange weights house k (slice_index least k) (slice_index most k)

-- the range of each group, in order, by the voter sums of the groups that take part; each other group has 0 and 0
pub record AreUpperRanges (voters : List ℕ) (taking : List Bool) (house : ℕ) (least most : List ℕ) : Type 0 where
  pub one_least_each : length least ≡ length voters
  pub one_most_each : length most ≡ length voters
  pub tied : AreSeatRanges (of_participants voters taking) house (of_participants least taking) (of_participants most taking)
  pub no_least : (place : ℕ) → slice_get taking place ≡ Some false → slice_index least place ≡ 0
  pub no_most : (place : ℕ) → slice_get taking place ≡ Some false → slice_index most place ≡ 0
