-- Which lists reach the quorum of their constituency (GPR section 102), as a Boolean function.
use Rattle.std.specs.Prelude.{ℕ, ◌*◌, ◌≤◌, ◌↔◌, ◌&&◌, nat_le, nat_lt, Bool, IsTrue, length}
use Rattle.zh_quorum.specs.Quorum.{ReachesQuorum}
use Rattle.zh_totals.specs.Totals.{VoteTotals, votes_in, constituency_votes}

-- for each list in each constituency, whether it reaches the quorum there
abbrev pub TellQuorums : VoteTotals → (ℕ → ℕ → Bool) → Type 0
TellQuorums totals reaches =
    (d g : ℕ) → 1 ≤ d → d ≤ length totals.canton.constituencies → 1 ≤ g → g ≤ length totals.canton.groups →
    IsTrue (reaches d g) ↔ ReachesQuorum totals d g

-- whether a list reaches the quorum, as a computation; `TellQuorums` holds for it
abbrev pub reaches_quorum : VoteTotals → ℕ → ℕ → Bool
reaches_quorum totals d g =
    nat_lt 0 (votes_in totals d g) && nat_le (5 * constituency_votes totals d) (100 * votes_in totals d g)
