use Rattle.std.proofs.Common.{◌≡◌}
use Rattle.zh_returns.specs.Tally.{Tally}
use Rattle.zh_returns.proofs.BatchLemmas.{upto}
use Rattle.zh_returns.proofs.count.Count.put_rows.Given as goal

abbrev pub invariant-loop-i : goal.invariant-loop-i
invariant-loop-i l = ◌≡◌ {A = Tally} l.self (upto l.origin l.initial.self l.rows l.i)
