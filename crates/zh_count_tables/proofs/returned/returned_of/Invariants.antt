use Rattle.std.proofs.Common.{◌≡◌, ◌≤◌, count_by}
use Rattle.std.specs.List.{range_with_len}
use Rattle.zh_count_tables.specs.Returned.{is_due, is_held}
use Rattle.zh_count_tables.proofs.returned.returned_of.Given as goal

abbrev pub invariant-loop-place : goal.invariant-loop-place
invariant-loop-place l = record {
  so_far_held : l.held ≡ count_by (is_held l.fn.count l.fn.region l.fn.group) (range_with_len 1 l.place);
  so_far_due : l.due ≡ count_by (is_due l.fn.count.canton l.fn.region l.fn.group) (range_with_len 1 l.place);
  few_held : l.held ≤ l.place;
  few_due : l.due ≤ l.place;
}
