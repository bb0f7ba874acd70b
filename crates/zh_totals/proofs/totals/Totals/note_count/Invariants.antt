use Rattle.std.proofs.Common.{◌≡◌}
use Rattle.zh_totals.specs.Counting.{totals_of}
use Rattle.zh_totals.specs.Totals.{VoteTotals}
use Rattle.zh_totals.specs.Parts.{held_before}
use Rattle.zh_totals.proofs.totals.Totals.note_count.Given as goal

abbrev pub invariant-loop-municipality : goal.invariant-loop-municipality
invariant-loop-municipality l = ◌≡◌ {A = VoteTotals} l.self (totals_of (held_before l.count l.municipality 1))
