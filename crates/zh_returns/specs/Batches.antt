-- How a batch of a desk keeps its rows.
use Rattle.std.specs.Prelude.{◌≡◌, ℕ, List, All}
use Rattle.zh_returns.specs.declared.row.Row.{Row}
use Rattle.zh_returns.specs.Rows.{row_key}

-- each row is stored under its key
abbrev pub AreKeyed : List ((ℕ × ℕ) × Row) → Type 0
AreKeyed entries = All (λ entry. entry.0 ≡ row_key entry.1) entries
