use Rattle.std.proofs.Common.{ℕ, ◌+◌, ◌<◌, ◌≤◌}
use Rattle.zh_decided.specs.Levels.{IsRowMaker, potential_at}
use Rattle.zh_decided.specs.Prices.{Priced}
use Rattle.zh_decided.specs.Taken.{priced_in}
use Rattle.zh_decided.proofs.prices.PricedSeats.row_mark.Given as goal

abbrev pub invariant-loop-column : goal.invariant-loop-column
invariant-loop-column l =
    let m : Priced = priced_in l.self in
    record {
      capped : l.mark.potential ≤ l.bounds.row_cap;
      given : (g : ℕ) → g < l.column → 0 < m.cells.votes l.row g →
          l.mark.potential + l.bounds.given ≤ potential_at l.columns g + m.next l.row g;
      maker : IsRowMaker m l.bounds l.columns l.row l.mark.potential l.mark.maker;
    }
