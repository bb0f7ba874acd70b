use Rattle.std.proofs.Common.{◌≡◌, ℕ, ◌≤◌, false}
use Rattle.zh_districts.specs.Canton.{stands}
use Rattle.zh_totals.specs.Totals.{votes_in}
use Rattle.zh_sheet.proofs.given_lists.none_hidden_in.Given as goal

abbrev pub invariant-loop-place : goal.invariant-loop-place
invariant-loop-place l = (g : ℕ) → 1 ≤ g → g ≤ l.place → stands l.totals.canton l.constituency g ≡ false → votes_in l.totals l.constituency g ≡ 0
