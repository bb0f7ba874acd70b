-- The part of a count before a key, by municipality and then by list.
use Rattle.std.specs.Prelude.{ℕ, ◌&&◌, ◌||◌, ◌==◌, nat_lt, Bool}
use Rattle.std.specs.FinMap as map_of
use Rattle.zh_returns.specs.Tally.{Tally}

-- whether a key comes before that of a municipality and a list
abbrev pub is_before : ℕ → ℕ → ℕ × ℕ → Bool
is_before m l key = nat_lt key.0 m || (key.0 == m && nat_lt key.1 l)

-- a count with only the entries before a key
abbrev pub held_before : Tally → ℕ → ℕ → Tally
held_before tally m l = record tally { entries = map_of.retain_keys tally.entries (is_before m l) }
