use Rattle.std.proofs.Common.{◌≡◌, ◌++◌, get_or, map}
use Rattle.zh_sheet.proofs.CallerLemmas.{first_seated}
use Rattle.zh_totals.specs.Totals.{place_in}
use Rattle.zh_check.proofs.recomputed.push_columns.Given as goal

-- the seats of the first groups
abbrev pub invariant-loop-place : goal.invariant-loop-place
invariant-loop-place l =
    l.columns.items ≡ l.fn.columns.items ++ map (λ g. get_or l.seats (place_in l.setup l.constituency g) 0) (first_seated l.divisors l.place)
