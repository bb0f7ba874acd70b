-- The code of a tally, by which a proof distinguishes tallies.
use Rattle.std.specs.Prelude.{ℕ, refl}
use Rattle.std.specs.Coded.{Coded, code_by, coded×, coded_ℕ}
use Rattle.std.specs.Ordering.{nat_cmp}
use Rattle.std.specs.FinMap as map
use Rattle.std.specs.FinSet as set
use Rattle.zh_districts.specs.Canton.{Canton}
use Rattle.zh_districts.specs.contracts.setup.Setup as setup
use Rattle.zh_returns.specs.declared.entry.Entry.{Entry}
use Rattle.zh_returns.specs.contracts.entry.Entry as entry
use Rattle.zh_returns.specs.Keys.{key_cmp}
use Rattle.zh_returns.specs.Tally.{Tally}

-- a tally is coded as its fields, in pairs
abbrev pub tally_code : Coded Tally
tally_code =
    code_by ((Canton × map.FinMap key_cmp Entry) × (set.FinSet nat_cmp × ℕ))
    (coded× (coded× setup.the_row.coded (map.code (coded× coded_ℕ coded_ℕ) entry.the_row.coded)) (coded× (set.code coded_ℕ) coded_ℕ))
    (λ t. ((t.canton, t.entries), (t.closed, t.accepted)))
    (λ p. record { canton = p.0.0; entries = p.0.1; closed = p.1.0; accepted = p.1.1 })
    (λ _. refl)
