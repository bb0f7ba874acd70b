-- The totals of a count.
use Rattle.std.specs.Prelude.{ℕ, Bool, ◌&&◌, ◌==◌, length, map, flat_map, filter, sum_by, unwrap_or}
use Rattle.std.specs.FinMap as map_of
use Rattle.zh_districts.specs.Canton.{Canton, constituency_of}
use Rattle.zh_returns.specs.declared.entry.Entry.{Entry}
use Rattle.zh_returns.specs.Payload.{numbers}
use Rattle.zh_returns.specs.Tally.{Tally}
use Rattle.zh_totals.specs.Totals.{VoteTotals}

-- the votes of an entry: a withdrawn list has none
abbrev pub votes_of : Entry → ℕ
votes_of entry = unwrap_or entry.votes 0

-- whether a key is that of group g in a municipality of constituency d
abbrev pub lies_in : Canton → ℕ → ℕ → ℕ × ℕ → Bool
lies_in canton d g key = constituency_of canton key.0 == d && key.1 == g

-- the votes of all entries of group g in the municipalities of constituency d
abbrev pub counted : Tally → ℕ → ℕ → ℕ
counted tally d g = sum_by (λ e. votes_of e.1) (filter (λ e. lies_in tally.canton d g e.0) (map_of.entries tally.entries))

-- the votes of each group in each constituency
abbrev pub totals_of : Tally → VoteTotals
totals_of tally = record {
  canton = tally.canton;
  votes = flat_map (λ d. map (counted tally d) (numbers 1 (length tally.canton.groups))) (numbers 1 (length tally.canton.constituencies));
}
