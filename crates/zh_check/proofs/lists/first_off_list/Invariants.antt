use Rattle.std.proofs.Common.{◌≡◌, ◌≤◌, ◌<◌, ◌+◌, ℕ}
use Rattle.zh_check.specs.Cells.{DoFollowAt, line_of_list}
use Rattle.zh_check.proofs.lists.first_off_list.Given as goal

-- the line of the next list; the seats of all earlier lists follow
abbrev pub invariant-loop-place : goal.invariant-loop-place
invariant-loop-place l = record {
  line : l.before + 1 ≡ line_of_list l.setup l.place;
  few : l.before ≤ 69 + l.place;
  follow : (k : ℕ) → k < l.place → DoFollowAt l.setup l.text k;
}
