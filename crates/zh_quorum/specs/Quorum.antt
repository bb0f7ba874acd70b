-- Which groups take part in the apportionment: GPR section 102, and in addition a canton-wide quorum.
use Rattle.std.specs.Prelude.{◌≡◌, ℕ, ◌+◌, ◌-◌, ◌*◌, ◌<◌, ◌≤◌, ◌↔◌, ◌⊎◌, Bool, false, IsTrue, Some, List, length, slice_index_or}
use Rattle.zh_divisors.specs.Sums.{sum_to}
use Rattle.zh_totals.specs.Totals.{VoteTotals, votes_in, constituency_votes, all_votes}

-- the list of group g in constituency d has votes and at least 5 per cent of the votes of all lists there
pub record ReachesQuorum (totals : VoteTotals) (d g : ℕ) : Type 0 where
  pub some_votes : 0 < votes_in totals d g
  pub five_per_cent : 5 * constituency_votes totals d ≤ 100 * votes_in totals d g

-- the list of group g reaches the quorum in some constituency
pub record ReachesSomewhere (totals : VoteTotals) (g : ℕ) : Type 0 where
  pub d : ℕ
  pub from_one : 1 ≤ d
  pub there : d ≤ length totals.canton.constituencies
  pub reaches : ReachesQuorum totals d g

-- the votes of group g in all constituencies
abbrev pub group_votes : VoteTotals → ℕ → ℕ
group_votes totals g = sum_to (length totals.canton.constituencies) (λ i. votes_in totals (i + 1) g)

-- the set-up has a canton-wide quorum of q per mille, and group g has votes and at least q per mille of the votes of all groups
-- in the whole canton
pub record ReachesCantonQuorum (totals : VoteTotals) (g : ℕ) : Type 0 where
  pub q : ℕ
  pub of_setup : totals.canton.canton_quorum ≡ Some q
  pub some_votes : 0 < group_votes totals g
  pub per_mille : q * all_votes totals ≤ 1000 * group_votes totals g

-- group g takes part: its list reaches the quorum in some constituency, or the group reaches the canton-wide quorum
pub record TakesPart (totals : VoteTotals) (g : ℕ) : Type 0 where
  pub reaches : ReachesSomewhere totals g ⊎ ReachesCantonQuorum totals g

-- one flag for each group, in order: whether it takes part
pub record AreParticipating (totals : VoteTotals) (taking : List Bool) : Type 0 where
  pub one_each : length taking ≡ length totals.canton.groups
  pub each : (g : ℕ) → 1 ≤ g → g ≤ length totals.canton.groups →
      IsTrue (slice_index_or taking (g - 1) false) ↔ TakesPart totals g
