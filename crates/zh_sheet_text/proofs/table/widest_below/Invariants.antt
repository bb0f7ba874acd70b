use Rattle.std.proofs.Common.{max, ◌≡◌, ◌≤◌, ℕ}
use Rattle.std.specs.List.{fold, range_with_len}
use Rattle.zh_sheet_text.specs.Table.{characters}
use Rattle.zh_sheet_text.proofs.table.widest_below.Given as goal

abbrev pub invariant-loop-place : goal.invariant-loop-place
invariant-loop-place g l = record {
  so_far : l.width ≡ fold (λ most (line : ℕ). max most (characters ((g.T.TableCells.grid l.fn.cells).cell line l.fn.column))) 3 (range_with_len 1 l.place);
  few : l.width ≤ 48;
}
