use Rattle.std.proofs.Common.{ℕ, ◌+◌, ◌++◌, List, get_or, map, ap, sym, ◌∙◌}
use Rattle.zh_sheet.specs.Distribution.{seated_groups}
use Rattle.zh_totals.specs.Totals.{place_in}
use Rattle.zh_check.proofs.TableLemmas.{table_more}
use Rattle.zh_check.proofs.recomputed.seats_in_columns.Goals as goal

pub loop-place-preserved : goal.loop-place-preserved
loop-place-preserved c =
    let p : ℕ = c.loop-place.place in
    let seated : List ℕ = seated_groups c.args.divisors.now in
    let f : ℕ → ℕ → ℕ = λ d g. get_or c.args.seats.now (place_in c.args.setup.now d g) 0 in
    c.in_ok-push_columns.ensures ∙ (ap (λ xs. xs ++ map (f (p + 1)) seated) c.loop-place.invariant ∙ sym (table_more f seated p))
