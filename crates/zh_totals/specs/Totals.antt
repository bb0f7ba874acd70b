-- Vote totals: the votes of each group in each constituency.
use Rattle.std.specs.Prelude.{◌≡◌, ℕ, ◌+◌, ◌-◌, ◌*◌, ◌^◌, ◌≤◌, List, length, slice_index}
use Rattle.zh_districts.specs.Canton.{Canton, IsCanton}
use Rattle.zh_divisors.specs.Sums.{sum_to}

-- the set-up, and one sum of votes for each group, constituency by constituency
pub record VoteTotals : Type 0 where
  pub canton : Canton
  pub votes : List ℕ

-- the place of a sum; constituencies and groups are numbered from 1
abbrev pub place_in : Canton → ℕ → ℕ → ℕ
place_in canton d g = (d - 1) * length canton.groups + (g - 1)

-- v(d, g): the votes of group g in constituency d
abbrev pub votes_in : VoteTotals → ℕ → ℕ → ℕ
votes_in totals d g = slice_index totals.votes (place_in totals.canton d g)

-- T_d: the votes of all groups in constituency d
abbrev pub constituency_votes : VoteTotals → ℕ → ℕ
constituency_votes totals d = sum_to (length totals.canton.groups) (λ i. votes_in totals d (i + 1))

-- the votes of all constituencies together
abbrev pub all_votes : VoteTotals → ℕ
all_votes totals = sum_to (length totals.canton.constituencies) (λ i. constituency_votes totals (i + 1))

-- one sum for each group in each constituency, and at most 10^14 votes in all
pub record AreTotals (totals : VoteTotals) : Type 0 where
  pub canton : IsCanton totals.canton
  pub one_each : length totals.votes ≡ length totals.canton.constituencies * length totals.canton.groups
  pub most : all_votes totals ≤ 10 ^ 14
