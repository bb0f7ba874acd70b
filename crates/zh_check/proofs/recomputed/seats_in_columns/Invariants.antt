use Rattle.std.proofs.Common.{◌≡◌, get_or}
use Rattle.zh_sheet.specs.Distribution.{seated_groups}
use Rattle.zh_totals.specs.Totals.{place_in}
use Rattle.zh_check.proofs.TableLemmas.{table}
use Rattle.zh_check.proofs.recomputed.seats_in_columns.Given as goal

-- the rows of the first constituencies
abbrev pub invariant-loop-place : goal.invariant-loop-place
invariant-loop-place l = l.columns.items ≡ table (λ d g. get_or l.seats (place_in l.setup d g) 0) (seated_groups l.divisors) l.place
