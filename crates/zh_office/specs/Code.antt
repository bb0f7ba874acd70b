-- The code of an office's contents, by which a proof tells offices apart.
use Rattle.std.specs.Prelude.{refl}
use Rattle.std.specs.Coded.{Coded, code_by, coded×, coded_list, coded_option}
use Rattle.zh_returns.specs.contracts.row.Row as row
use Rattle.zh_office.specs.DeskBatches.{Held}
use Rattle.zh_ledger.specs.Code.{ledger_code}
use Rattle.zh_ledger.specs.Ledger.{Ledger}
use Rattle.zh_office.specs.Office.{Office}

-- an office is coded as the pair of its fields
abbrev pub office_code : Coded Office
office_code =
    code_by (Ledger × Held) (coded× ledger_code (coded_list (coded_option (coded_list row.the_row.coded))))
    (λ o. (o.ledger, o.held)) (λ p. record { ledger = p.0; held = p.1 }) (λ _. refl)
