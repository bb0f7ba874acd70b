use Rattle.std.proofs.Common.{◌≡◌, ◌≤◌, ℕ, List, length, drop, Result, Ok, is_err}
use Rattle.zh_disk.specs.declared.disk.DiskFault.{DiskFault}
use Rattle.zh_disk.specs.Disk.{Asks}
use Rattle.zh_disk.specs.History.{Call}
use Rattle.zh_journal.specs.Pages.{Frames, ReadsRecords}
use Rattle.zh_journal.proofs.record.find_page.Given as goal

abbrev pub invariant-loop-passed : goal.invariant-loop-passed
invariant-loop-passed g l = record {
  inside : l.page ≤ 1024;
  so_far : Call {A = Result (Unit {0}) DiskFault} is_err
      (Asks (λ bytes answer. ((rs : List (List ℕ)) × Frames l.base bytes 0 rs l.page × (length rs ≡ l._passed))
      × ((rs : List (List ℕ)) (j : ℕ) → ReadsRecords l.base bytes rs j → l._passed ≤ length rs → Frames l.base bytes l.page (drop l._passed rs) j)))
      (g.D.Disk.history l.initial.disk) (g.D.Disk.history l.disk) (Ok tt);
}
