use Rattle.std.proofs.Common.{◌≡◌}
use Rattle.zh_returns.specs.Origin.{origin_of}
use Rattle.zh_returns.proofs.CallerLemmas.{upto}
use Rattle.zh_totals.specs.Counting.{totals_of}
use Rattle.zh_totals.specs.Totals.{VoteTotals}
use Rattle.zh_totals.proofs.totals.Totals.note_command.Given as goal

abbrev pub invariant-loop-i : goal.invariant-loop-i
invariant-loop-i l = ◌≡◌ {A = VoteTotals} l.self (totals_of (upto (origin_of l.command) l.count l.rows l.i))
