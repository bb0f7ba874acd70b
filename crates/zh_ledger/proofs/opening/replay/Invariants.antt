use Rattle.std.proofs.Common.{◌≡◌, ◌-◌, ℕ, List}
use Rattle.zh_journal.specs.Pages.{Frames}
use Rattle.zh_ledger.proofs.ReplayLemmas.{Remains}
use Rattle.zh_ledger.proofs.opening.replay.Given as goal

abbrev pub invariant-loop-payload : goal.invariant-loop-payload
invariant-loop-payload l = record {
  pages : l.reader.pages ≡ l.initial.reader.pages;
  end : l.reader.end ≡ l.initial.reader.end;
  canton : l.count.canton ≡ l.initial.count.canton;
  remains : (records : List (List ℕ)) → Frames 0 l.initial.reader.pages l.initial.reader.page records l.initial.reader.end
      → Remains l.format l.initial.reader.pages l.reader.page l.initial.reader.end l.initial.count records l.count;
}

abbrev pub decreases-loop-payload : goal.decreases-loop-payload
decreases-loop-payload l = l.reader.end - l.reader.page
