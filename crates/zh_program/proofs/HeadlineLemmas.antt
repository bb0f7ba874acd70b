-- From exchanges one by one to the promise: what holds of each exchange in its turn holds of it wherever it is in the list.
use Rattle.std.proofs.Common.{◌≡◌, List, [], ◌∷◌, ◌++◌}
use Rattle.zh_disk.specs.Disk.{Trail}
use Rattle.zh_returns.specs.Tally.{Tally}
use Rattle.zh_ledger.specs.Stands.{Holds}
use Rattle.zh_office.specs.Exchanges.{Exchange, disk_by}
use Rattle.zh_program.specs.Headline.{Headline}
use Rattle.zh_program.specs.Order.{Conversation}
use Rattle.zh_program.specs.Stopped.{Always}
use Rattle.zh_program.proofs.OpensLemmas.{opens_to}
use Rattle.zh_program.proofs.OrderLemmas.{IsTold, order_of}
use Rattle.zh_program.proofs.TurnLemmas.{AreTurns, IsOne, at_any, at_one}

-- The promise of an office that was opened or refused.
pub headline_of : (tally : Tally) (before : Trail) (talk : Conversation) (xs : List Exchange)
    → Always (Holds tally) before talk.first.disk
    → AreTurns tally talk.first.disk [] xs
    → disk_by talk.first.disk xs ≡ talk.last.disk
    → IsTold xs talk
    → Headline tally before talk xs
headline_of tally before talk xs opening turns end told =
    let opened = talk.first.disk in
    let one : (done rest : List Exchange) (x : Exchange) → xs ≡ done ++ x ∷ rest → IsOne tally opened done x
    = λ done rest x is. at_one tally opened [] done rest x xs turns is in
    record {
      read = λ done rest x is. (one done rest x is).read;
      commands = λ done rest x is. (one done rest x is).command;
      accepted = λ done rest x is. (one done rest x is).accepted;
      counted = λ done rest x is. (one done rest x is).counted;
      stored = λ done rest x is. (one done rest x is).stored;
      same = λ done rest x is. (one done rest x is).same;
      stopped_opening = opening;
      stopped_between = λ done rest is. at_any tally opened [] done rest xs turns is;
      stopped_within = λ done rest x is. (one done rest x is).stopped;
      end = end;
      order = order_of tally talk xs turns told;
      reopened = λ count c holds. opens_to count c holds;
      sheets = λ done rest x is. (one done rest x is).fair.sheet;
      ties_are_true = λ done rest x is. (one done rest x is).fair.tie;
    }
