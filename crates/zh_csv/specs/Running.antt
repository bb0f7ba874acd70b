-- The keys and the sums of the rows that were read.
use Rattle.std.specs.Prelude.{◌≡◌, ℕ, Bool, List}
use Rattle.std.specs.BTreeSet.{BTreeSet, contains}
use Rattle.zh_districts.specs.Canton.{Canton}
use Rattle.zh_returns.specs.Keys.{key_cmp}
use Rattle.zh_csv.specs.declared.held_sums.HeldRow.{HeldRow}
use Rattle.zh_csv.specs.declared.held_sums.RunningSums.{RunningSums}
use Rattle.zh_csv.specs.Rows.{holds_key, AreHeld, sums_of}

-- whether a key is in a set
abbrev pub has_seen : BTreeSet (ℕ × ℕ) → ℕ × ℕ → Bool
has_seen keys key = contains key_cmp keys key

-- the set contains exactly the keys of these rows
abbrev pub AreKeysOf : List HeldRow → BTreeSet (ℕ × ℕ) → Type 0
AreKeysOf rows keys = (key : ℕ × ℕ) → has_seen keys key ≡ holds_key rows key

-- these are the keys and the sums of these rows of a set-up
pub record HasTaken (canton : Canton) (rows : List HeldRow) (sums : RunningSums) : Type 0 where
  pub setup : sums.totals.canton ≡ canton
  pub held : AreHeld canton rows
  pub keys : AreKeysOf rows sums.keys
  pub totals : sums.totals ≡ sums_of canton rows
