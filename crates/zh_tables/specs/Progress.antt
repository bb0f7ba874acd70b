-- How many returns are in. In each municipality one return is due for each list that stands there.
use Rattle.std.specs.Prelude.{ℕ, ◌+◌, ◌*◌, ◌≤◌, ◌==◌, ◌&&◌, nat_lt, not, Bool, true, if◌then◌else◌, List, length, filter}
use Rattle.std.specs.Prelude.{Option, Some, None, is_some, unwrap_or, count_by, sum_by}
use Rattle.std.specs.List.{range_with_len}
use Rattle.std.specs.FinSet as set
use Rattle.zh_districts.specs.Canton.{Canton, constituency_of, stands}
use Rattle.zh_returns.specs.Limits.{most_votes}
use Rattle.zh_returns.specs.Tally.{Tally, held}
use Rattle.zh_returns.specs.declared.entry.Entry.{Entry}
use Rattle.zh_tables.specs.declared.progress.Progress.{Progress}
use Rattle.zh_tables.specs.declared.progress.Region.{Region}
use Rattle.zh_tables.specs.declared.progress.Region.TheVariants.{Whole, Constituency, Others}

abbrev pub one_if : Bool → ℕ
one_if holds = if holds then 1 else 0

-- the votes of an entry; a withdrawn list, or no entry, has none
abbrev pub entry_votes : Option Entry → ℕ
entry_votes None = 0
entry_votes (Some entry) = unwrap_or entry.votes 0

-- the numbers of the lists and, below, of the municipalities
abbrev pub lists : Canton → List ℕ
lists canton = range_with_len 1 (length canton.groups)

abbrev pub municipalities : Canton → List ℕ
municipalities canton = range_with_len 1 (length canton.municipalities)

-- whether a return is due and not held
abbrev pub is_missing : Tally → ℕ → ℕ → Bool
is_missing tally m list = stands tally.canton (constituency_of tally.canton m) list && not (is_some (held tally m list))

-- how many returns of a municipality are held; a withdrawal counts too
abbrev pub held_in : Tally → ℕ → ℕ
held_in tally m = count_by (λ list. is_some (held tally m list)) (lists tally.canton)

-- how many returns are in from a municipality
abbrev pub progress_of : Tally → ℕ → Progress
progress_of tally m = record {
  held = held_in tally m;
  due = count_by (stands tally.canton (constituency_of tally.canton m)) (lists tally.canton);
  missing = count_by (is_missing tally m) (lists tally.canton);
  votes = sum_by (λ list. entry_votes (held tally m list)) (lists tally.canton);
  municipalities = 1;
  begun = one_if (nat_lt 0 (held_in tally m));
  closed = one_if (set.contains tally.closed m);
}

-- how many returns are in from these municipalities together
abbrev pub progress_over : Tally → List ℕ → Progress
progress_over tally ms = record {
  held = sum_by (λ m. (progress_of tally m).held) ms;
  due = sum_by (λ m. (progress_of tally m).due) ms;
  missing = sum_by (λ m. (progress_of tally m).missing) ms;
  votes = sum_by (λ m. (progress_of tally m).votes) ms;
  municipalities = length ms;
  begun = sum_by (λ m. (progress_of tally m).begun) ms;
  closed = sum_by (λ m. (progress_of tally m).closed) ms;
}

-- whether a municipality is in this region
abbrev pub is_within : Canton → Region → ℕ → Bool
is_within canton Whole m = true
is_within canton (Constituency d) m = constituency_of canton m == d
is_within canton (Others d besides) m = (constituency_of canton m == d) && not (m == besides)

-- the municipalities of a region
abbrev pub within : Canton → Region → List ℕ
within canton region = filter (is_within canton region) (municipalities canton)

-- the sum of two, field by field
abbrev pub both : Progress → Progress → Progress
both a b = record {
  held = a.held + b.held;
  due = a.due + b.due;
  missing = a.missing + b.missing;
  votes = a.votes + b.votes;
  municipalities = a.municipalities + b.municipalities;
  begun = a.begun + b.begun;
  closed = a.closed + b.closed;
}

-- the numbers are at most those that n municipalities can have
pub record AreFew (n : ℕ) (p : Progress) : Type 0 where
  pub held : p.held ≤ 32 * n
  pub due : p.due ≤ 32 * n
  pub missing : p.missing ≤ 32 * n
  pub votes : p.votes ≤ 32 * most_votes * n
  pub municipalities : p.municipalities ≤ n
  pub begun : p.begun ≤ n
  pub closed : p.closed ≤ n
