-- What the fields of totals mean.
use Rattle.std.specs.Prelude.{◌≡◌, ℕ, ◌+◌, ◌<◌, List, length, slice_index}
use Rattle.zh_totals.specs.Totals.{VoteTotals, AreTotals, constituency_votes}
use Rattle.zh_totals.specs.declared.totals.Totals.TheInside.{Inside}

abbrev pub totals_in : Inside → VoteTotals
totals_in t = record { canton = t.setup.now; votes = t.votes.items }

-- one sum for each constituency, in order: the votes of all groups there
pub record AreConstituencies (totals : VoteTotals) (sums : List ℕ) : Type 0 where
  pub one_each : length sums ≡ length totals.canton.constituencies
  pub votes : (i : ℕ) → i < length totals.canton.constituencies → slice_index sums i ≡ constituency_votes totals (i + 1)

-- totals within their limits, and the votes of their constituencies
pub record AreTotalsInside (t : Inside) : Type 0 where
  pub totals : AreTotals (totals_in t)
  pub constituencies : AreConstituencies (totals_in t) t.constituencies.items
