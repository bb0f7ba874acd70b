-- Votes that no sheet shows: those of lists that do not stand.
use Rattle.std.specs.Prelude.{◌≡◌, ℕ, ◌≤◌, false, length}
use Rattle.zh_districts.specs.Canton.{stands}
use Rattle.zh_totals.specs.Totals.{VoteTotals, votes_in}

-- lists that do not stand have no votes, in constituency d and, below, in each constituency
abbrev pub NoneHiddenIn : VoteTotals → ℕ → Type 0
NoneHiddenIn totals d = (g : ℕ) → 1 ≤ g → g ≤ length totals.canton.groups → stands totals.canton d g ≡ false → votes_in totals d g ≡ 0

abbrev pub NoneHidden : VoteTotals → Type 0
NoneHidden totals = (d : ℕ) → 1 ≤ d → d ≤ length totals.canton.constituencies → NoneHiddenIn totals d
