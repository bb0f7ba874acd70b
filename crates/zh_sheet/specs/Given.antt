-- Given seats of the lists and divisors: whether they are a distribution of the votes.
use Rattle.std.specs.Prelude.{◌≡◌, ℕ, ◌*◌, ◌^◌, ◌≤◌, Option, Some, IfSome, List, All, length}
use Rattle.zh_matrices.specs.Divisors.{AreWithin, AreWithinLimits, millionths}
use Rattle.zh_matrices.specs.Question.{Question}
use Rattle.zh_matrices.specs.SeatMatrix.{IsStrict, SeatMatrix}
use Rattle.zh_totals.specs.Hidden.{NoneHidden}
use Rattle.zh_totals.specs.Totals.{VoteTotals}
use Rattle.zh_sheet.specs.Distribution.{Distribution, IsDistribution}
use Rattle.zh_sheet.specs.Refusals.{IsBeforeLists, NoneOf}

-- a distribution that may be published: a sheet shows all of its votes, and no case before those of the lists holds
pub record IsPublished (x : Distribution) : Type 0 where
  pub distribution : IsDistribution x
  pub votes : NoneHidden x.totals
  pub none : NoneOf IsBeforeLists x.totals

-- seats of the lists, row by row, with divisors in millionths
abbrev pub given_lists : List ℕ → List ℕ → List ℕ → SeatMatrix
given_lists seats of_rows of_columns = record { seats = seats; divisors = millionths of_rows of_columns }

-- the seats follow from the divisors, which are within the limits
pub record DoFollow (q : Question) (lists : SeatMatrix) : Type 0 where
  pub strict : IsStrict q lists.divisors lists.seats
  pub limits : AreWithinLimits q lists.divisors.of_rows lists.divisors.of_columns

-- m rows and n columns, with divisors within the limits and at most 400 seats for each list
pub record DoFit (m n : ℕ) (lists : SeatMatrix) : Type 0 where
  pub rows : AreWithin m (10 ^ 18) lists.divisors.of_rows
  pub columns : AreWithin n (10 ^ 12) lists.divisors.of_columns
  pub one_each : length lists.seats ≡ m * n
  pub few : All (λ s. s ≤ 400) lists.seats

-- the distribution of these totals with these lists, if and only if there is one
pub record IsGiven (totals : VoteTotals) (lists : SeatMatrix) (sheet : Option Distribution) : Type 0 where
  pub votes : IfSome sheet (λ x. x.totals ≡ totals)
  pub seats : IfSome sheet (λ x. x.lower ≡ lists)
  pub meets : IfSome sheet IsPublished
  pub every : (x : Distribution) → IsPublished x → x.totals ≡ totals → x.lower ≡ lists → sheet ≡ Some x

-- two distributions have the same seats of the constituencies, of the groups and of the lists, and the same two keys
pub record HaveSameSeats (one other : Distribution) : Type 0 where
  pub constituencies : other.seats ≡ one.seats
  pub groups : other.upper ≡ one.upper
  pub lists : other.lower.seats ≡ one.lower.seats
