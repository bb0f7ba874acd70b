-- The result of opening an office.
use Rattle.std.specs.Prelude.{Result, Ok, Err}
use Rattle.zh_ledger.specs.Ledger.{Ledger}
use Rattle.zh_ledger.specs.declared.opening.OpenFault.{OpenFault}
use Rattle.zh_office.specs.Office.{Office}

-- the result of opening, reduced to the ledger
abbrev pub ledger_of_opened : Result Office OpenFault → Result Ledger OpenFault
ledger_of_opened (Ok office) = Ok office.ledger
ledger_of_opened (Err fault) = Err fault
