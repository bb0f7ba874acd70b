-- The votes of a group in the whole canton.
use Rattle.std.proofs.Common.{◌≡◌, ℕ, ◌+◌, ◌^◌, ◌<◌, ◌≤◌, length, inl, inr, arith}
use Rattle.zh_divisors.specs.Sums.{sum_to}
use Rattle.zh_totals.specs.Totals.{VoteTotals, AreTotals, votes_in, constituency_votes, all_votes}
use Rattle.zh_divisors.proofs.CallerLemmas.{positive_term, sum_to-fewer, sum_to-le, sum_to-suc}
use Rattle.zh_totals.proofs.CallerLemmas.{group_within}
use Rattle.zh_quorum.specs.Quorum.{ReachesSomewhere, ReachesCantonQuorum, TakesPart, group_votes}

-- a group has no more votes than all groups
pub group_votes-within : (totals : VoteTotals) (g : ℕ) → 1 ≤ g → g ≤ length totals.canton.groups → group_votes totals g ≤ all_votes totals
group_votes-within totals g from_one there =
    sum_to-le (length totals.canton.constituencies) (λ i. votes_in totals (i + 1) g) (λ i. constituency_votes totals (i + 1))
    (λ i lt. group_within totals (i + 1) g from_one there)

-- one more constituency
pub one_more : (f : ℕ → ℕ) (k votes next : ℕ) → votes ≡ sum_to k f → next ≡ f k → votes + next ≡ sum_to (k + 1) f
one_more f k votes next so_far here = omega (arith, sum_to-suc k f)

pub group_votes-few : (totals : VoteTotals) (g k votes next : ℕ) → AreTotals totals → 1 ≤ g → g ≤ length totals.canton.groups → k < length totals.canton.constituencies →
    votes ≡ sum_to k (λ i. votes_in totals (i + 1) g) → next ≡ votes_in totals (k + 1) g → votes + next ≤ 10 ^ 14
group_votes-few totals g k votes next are from_one there within so_far here =
    let more = one_more (λ i. votes_in totals (i + 1) g) k votes next so_far here in
    let front = sum_to-fewer (k + 1) (length totals.canton.constituencies) (λ i. votes_in totals (i + 1) g) (omega arith) in
    omega (arith, more, front, group_votes-within totals g from_one there, are.most)

pub all_votes-few : (totals : VoteTotals) (k votes next : ℕ) → AreTotals totals → k < length totals.canton.constituencies →
    votes ≡ sum_to k (λ i. constituency_votes totals (i + 1)) → next ≡ constituency_votes totals (k + 1) → votes + next ≤ 10 ^ 14
all_votes-few totals k votes next are within so_far here =
    let more = one_more (λ i. constituency_votes totals (i + 1)) k votes next so_far here in
    let front = sum_to-fewer (k + 1) (length totals.canton.constituencies) (λ i. constituency_votes totals (i + 1)) (omega arith) in
    omega (arith, more, front, are.most)

-- the list of a group has votes in some constituency
pub record HasVotes (totals : VoteTotals) (g : ℕ) : Type 0 where
  pub d : ℕ
  pub from_one : 1 ≤ d
  pub there : d ≤ length totals.canton.constituencies
  pub some_votes : 0 < votes_in totals d g

reaching : (totals : VoteTotals) (g : ℕ) → ReachesSomewhere totals g → HasVotes totals g
reaching totals g is = record { d = is.d; from_one = is.from_one; there = is.there; some_votes = is.reaches.some_votes }

in_canton : (totals : VoteTotals) (g : ℕ) → ReachesCantonQuorum totals g → HasVotes totals g
in_canton totals g is =
    let found = positive_term (length totals.canton.constituencies) (λ i. votes_in totals (i + 1) g) is.some_votes in
    record { d = found.0 + 1; from_one = omega arith; there = omega (arith, found.1); some_votes = found.2 }

-- a group that takes part has a list with votes
pub has_votes : (totals : VoteTotals) (g : ℕ) → TakesPart totals g → HasVotes totals g
has_votes totals g is = elim is.reaches [ inl somewhere ↦ reaching totals g somewhere | inr canton ↦ in_canton totals g canton ]
