use Rattle.std.proofs.Common.{◌≡◌, ◌≤◌, ◌-◌, ℕ, List, length}
use Rattle.zh_journal.specs.Pages.{Frames}
use Rattle.zh_journal.proofs.area.extent_of.Given as goal

abbrev pub invariant-loop-end : goal.invariant-loop-end
invariant-loop-end l = record {
  end_in : l.end ≤ 1024;
  count_in : l.count ≤ l.end;
  found : (rs : List (List ℕ)) × Frames 0 l.pages 0 rs l.end × (length rs ≡ l.count);
}

abbrev pub decreases-loop-end : goal.decreases-loop-end
decreases-loop-end l = 1024 - l.end
