-- The logarithms and the priced seats that the code borrows.
use Rattle.zh_matrices.specs.Asked.{asked}
use Rattle.zh_decided.specs.Prices.{Logs, Priced, priced}
use Rattle.zh_decided.specs.declared.prices.LogTable as borrowed
use Rattle.zh_decided.specs.declared.prices.PricedSeats.{PricedSeats}

abbrev pub logs : borrowed.LogTable → Logs
logs l = record { of_votes = l.of_votes.now; of_odds = l.of_odds.now }

-- the borrowed seats with their prices
abbrev pub priced_in : PricedSeats → Priced
priced_in p = priced (asked p.question.now) (logs p.logarithms.now) p.seats.now
