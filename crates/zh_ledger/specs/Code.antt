-- The code of a ledger, by which a proof tells ledgers apart.
use Rattle.std.specs.Prelude.{◌≡◌, Bool, true, false, refl}
use Rattle.std.specs.Coded.{Coded, code_by, coded×, coded_bool}
use Rattle.zh_returns.specs.declared.command.Format.{Format}
use Rattle.zh_returns.specs.declared.command.Format.TheVariants.{One, Two}
use Rattle.zh_returns.specs.Code.{tally_code}
use Rattle.zh_returns.specs.Tally.{Tally}
use Rattle.zh_snapshot.specs.Store as store
use Rattle.zh_snapshot.specs.Code.{state_code}
use Rattle.zh_ledger.specs.Ledger.{Ledger, is_one}

abbrev pub format_by : Bool → Format
format_by true = One
format_by false = Two

pub format_again : (format : Format) → format_by (is_one format) ≡ format
format_again One = refl
format_again Two = refl

-- a format is coded as whether it is format One
abbrev pub format_code : Coded Format
format_code = code_by Bool coded_bool is_one format_by format_again

-- a ledger is coded as its fields, in pairs
abbrev pub ledger_code : Coded Ledger
ledger_code =
    code_by (Tally × (store.State × Format)) (coded× tally_code (coded× state_code format_code))
    (λ l. (l.tally, (l.store, l.format))) (λ p. record { tally = p.0; store = p.1.0; format = p.1.1 }) (λ _. refl)
