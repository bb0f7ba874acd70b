-- A night of an office: lines, loaded texts, stops and openings on an honest disk that was formatted for the office.
use Rattle.std.specs.Prelude.{◌≡◌}
use Rattle.zh_office.specs.DeskBatches.{no_batches}
use Rattle.zh_ledger.specs.Night.{Keeper, Law}
use Rattle.zh_ledger.specs.Submissions.{OnDisk, Log}
use Rattle.zh_office.specs.Exchanges.{Given, log_by}
use Rattle.zh_office.specs.declared.answer.Answer.{Answer}
use Rattle.zh_office.specs.Office.{Office, command_taken}
use Rattle.zh_office.specs.Runs.{Turn, exchange}

-- the office takes its turn, and adds this to the log
abbrev pub TakesTurn : OnDisk Office → Given → Answer → Log → OnDisk Office → Type 0
TakesTurn old given answer log new = Turn old (exchange old given answer new) new × (log ≡ log_by (command_taken old.holder given) answer)

-- an office keeps a ledger; when it is opened, no desk has a batch
abbrev pub office : Keeper
office = record {
  Holder = Office;
  Given = Given;
  Answer = Answer;
  ledger = λ o. o.ledger;
  begins = λ o. o.held ≡ no_batches;
  does = TakesTurn;
}

abbrev pub OfficeLaw : Type 0
OfficeLaw = Law office
