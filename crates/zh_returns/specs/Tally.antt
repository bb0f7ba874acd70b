-- The count of an election, as a map, a set and a number.
use Rattle.std.specs.Prelude.{ℕ, Option}
use Rattle.std.specs.Ordering.{nat_cmp}
use Rattle.std.specs.FinMap as map
use Rattle.std.specs.FinSet as set
use Rattle.zh_districts.specs.Canton.{Canton}
use Rattle.zh_returns.specs.Keys.{key_cmp}
use Rattle.zh_returns.specs.declared.entry.Entry.{Entry}

-- the set-up, what is held under each (municipality, list), the closed municipalities, and how many commands were accepted
pub record Tally : Type 0 where
  pub canton : Canton
  pub entries : map.FinMap key_cmp Entry
  pub closed : set.FinSet nat_cmp
  pub accepted : ℕ

-- the empty count: nothing is held, closed or accepted
abbrev pub empty : Canton → Tally
empty canton = record { canton = canton; entries = map.empty; closed = set.empty; accepted = 0 }

-- what is held under a key
abbrev pub held : Tally → ℕ → ℕ → Option Entry
held tally municipality list = map.get tally.entries (municipality, list)
