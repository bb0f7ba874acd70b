-- Voter numbers: GPR section 103.
use Rattle.std.specs.Prelude.{◌≡◌, ℕ, ◌+◌, ◌-◌, ◌*◌, ◌/◌, ◌<◌, ◌≤◌, List, length, slice_index}
use Rattle.zh_divisors.specs.Sums.{sum_to}
use Rattle.zh_totals.specs.Totals.{VoteTotals, votes_in}

-- votes over seats, rounded to the nearest whole number, is this number; a half is rounded up
pub record RoundsHalfUp (votes seats number : ℕ) : Type 0 where
  pub from_lower : (2 * number - 1) * seats ≤ 2 * votes
  pub below_upper : 2 * votes < (2 * number + 1) * seats

-- the voter number of a list: its votes over the seats of its constituency, rounded half up
abbrev pub voter_number : ℕ → ℕ → ℕ
voter_number votes seats = (2 * votes + seats) / (2 * seats)

-- the voter sum of group g: the voter numbers of its lists, added over all constituencies, by the seats of each
abbrev pub voter_sum : VoteTotals → List ℕ → ℕ → ℕ
voter_sum totals seats g =
    sum_to (length totals.canton.constituencies) (λ i. voter_number (votes_in totals (i + 1) g) (slice_index seats i))

-- the voter sum of each group, in order
pub record AreVoterSums (totals : VoteTotals) (seats sums : List ℕ) : Type 0 where
  pub one_each : length sums ≡ length totals.canton.groups
  pub each : (g : ℕ) → 1 ≤ g → g ≤ length totals.canton.groups → slice_index sums (g - 1) ≡ voter_sum totals seats g
