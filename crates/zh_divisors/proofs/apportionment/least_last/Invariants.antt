use Rattle.std.proofs.Common.{◌≡◌, ℕ, ◌<◌, ◌≤◌, length, get_or}
use Rattle.zh_divisors.specs.Worth.{IsLeastLast}
use Rattle.zh_divisors.proofs.apportionment.least_last.Given as goal

-- `least` is 0 until a weight with a seat is found
abbrev pub invariant-loop-i : goal.invariant-loop-i
invariant-loop-i l =
    record {
      within : l.least < length l.weights;
      none : get_or l.seats l.least 0 ≡ 0 → (k : ℕ) → k < l.i → get_or l.seats k 0 ≡ 0;
      some : 1 ≤ get_or l.seats l.least 0 → IsLeastLast l.weights l.seats l.i l.least;
    }
