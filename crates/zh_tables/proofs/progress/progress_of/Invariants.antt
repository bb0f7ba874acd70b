use Rattle.std.proofs.Common.{◌≡◌, ◌≤◌, ◌*◌, count_by, is_some, sum_by}
use Rattle.std.specs.List.{range_with_len}
use Rattle.zh_districts.specs.Canton.{constituency_of, stands}
use Rattle.zh_returns.specs.Limits.{most_votes}
use Rattle.zh_returns.specs.Tally.{held}
use Rattle.zh_tables.specs.Progress.{entry_votes, is_missing}
use Rattle.zh_tables.proofs.progress.progress_of.Given as goal

abbrev pub invariant-loop-place : goal.invariant-loop-place
invariant-loop-place l = record {
  so_far_held : l.held ≡ count_by (λ list. is_some (held l.fn.count l.fn.municipality list)) (range_with_len 1 l.place);
  so_far_due : l.due ≡ count_by (stands l.fn.count.canton (constituency_of l.fn.count.canton l.fn.municipality)) (range_with_len 1 l.place);
  so_far_missing : l.missing ≡ count_by (is_missing l.fn.count l.fn.municipality) (range_with_len 1 l.place);
  so_far_votes : l.votes ≡ sum_by (λ list. entry_votes (held l.fn.count l.fn.municipality list)) (range_with_len 1 l.place);
  few_held : l.held ≤ l.place;
  few_due : l.due ≤ l.place;
  few_missing : l.missing ≤ l.place;
  few_votes : l.votes ≤ most_votes * l.place;
}
