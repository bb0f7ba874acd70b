use Rattle.std.proofs.Common.{◌≡◌, MatchOption, ℕ, ◌+◌, ◌-◌, ◌<◌, ◌≤◌}
use Rattle.zh_decided.specs.Levels.{MakesColumn, potential_at}
use Rattle.zh_decided.specs.Prices.{Priced}
use Rattle.zh_decided.specs.Taken.{priced_in}
use Rattle.zh_decided.proofs.prices.PricedSeats.column_mark.Given as goal

abbrev pub invariant-loop-row : goal.invariant-loop-row
invariant-loop-row l =
    let m : Priced = priced_in l.self in
    record {
      falls : l.mark.potential ≤ l.before;
      taken : (d : ℕ) → d < l.row → 0 < m.cells.seats d l.column →
          l.mark.potential ≤ potential_at l.rows d - (m.last d l.column + l.bounds.taken);
      maker : MatchOption l.mark.maker (l.mark.potential ≡ l.before)
          (λ d. (l.mark.potential < l.before) × MakesColumn m l.bounds l.rows l.column l.mark.potential d);
    }
