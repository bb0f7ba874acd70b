-- What a loading would find about each record of a text: either reading it after the records before it has a fault, or its row is judged
-- against the count. Refused memory is left out.
use Rattle.std.specs.Prelude.{ℕ, ◌+◌, ◌||◌, if◌then◌else◌, Bool, true, false, List, [], ◌∷◌, ◌++◌, length}
use Rattle.std.specs.Prelude.{map, get_or, take, count_by, Option, Some, None, Result, Ok, Err}
use Rattle.std.specs.List.{list_any, range_with_len}
use Rattle.zh_districts.specs.Canton.{Canton}
use Rattle.zh_returns.specs.declared.row.Row.{Row}
use Rattle.zh_returns.specs.Tally.{Tally}
use Rattle.zh_returns.specs.Judgement.{judge_row}
use Rattle.zh_returns.specs.declared.judgement.Verdict.{Verdict}
use Rattle.zh_returns.specs.declared.judgement.Verdict.TheVariants as verdicts
use Rattle.zh_commands.specs.declared.replies.Refusal.TheVariants as refusals
use Rattle.zh_csv.specs.Records.{Record}
use Rattle.zh_csv.specs.Load.{fault_after}
use Rattle.zh_csv.specs.declared.batch_reader.LoadFault.{LoadFault}
use Rattle.zh_office.specs.Load.{load_refusal}
use Rattle.zh_office.specs.Rows.{row_in, has_names}
use Rattle.zh_office.specs.declared.judgement.Forecast.{Forecast}
use Rattle.zh_office.specs.declared.judgement.Judgement.{Judgement}
use Rattle.zh_office.specs.declared.judgement.Judgement.TheVariants.{Stores, Same, Refused}

-- a judged record: its row number in the text (from 1), its fields and its judgement
pub record Finding : Type 0 where
  pub number : ℕ
  pub fields : Record
  pub judgement : Judgement

-- the judgement of a row by its verdict
abbrev pub by_verdict : Verdict → Judgement
by_verdict verdicts.Accept = Stores
by_verdict verdicts.Same = Same
by_verdict (verdicts.Refused reason) = Refused (refusals.Judged reason)

-- a fault in reading takes precedence over the verdict
abbrev pub by_fault : Option LoadFault → Verdict → Judgement
by_fault (Some fault) verdict = Refused (load_refusal fault)
by_fault None verdict = by_verdict verdict

-- the judgement of a record that reads like this, after these rows
abbrev pub judgement : Tally → List Row → Result Row LoadFault → Judgement
judgement tally rows (Err fault) = Refused (load_refusal fault)
judgement tally rows (Ok row) = by_fault (fault_after tally.canton rows row) (judge_row tally row)

-- the rows, and one more if it has no fault
abbrev pub rows_unless : Option LoadFault → List Row → Row → List Row
rows_unless (Some fault) rows row = rows
rows_unless None rows row = rows ++ row ∷ []

-- the rows after a record that reads like this: its row is added if it has no fault
abbrev pub rows_after : Canton → List Row → Result Row LoadFault → List Row
rows_after canton rows (Err fault) = rows
rows_after canton rows (Ok row) = rows_unless (fault_after canton rows row) rows row

-- the rows after all these records
abbrev pub rows_kept : Canton → List Row → List Record → List Row
rows_kept canton rows [] = rows
rows_kept canton rows (fields ∷ others) = rows_kept canton (rows_after canton rows (row_in fields)) others

-- the finding on the k-th of the records after the first (k from 0), judged after the rows that are kept of the records before it
abbrev pub finding_on : Tally → List Record → ℕ → Finding
finding_on tally others k = record {
  number = 2 + k;
  fields = get_or others k [];
  judgement = judgement tally (rows_kept tally.canton [] (take k others)) (row_in (get_or others k []));
}

-- the findings on all records after the first
abbrev pub findings_on : Tally → List Record → List Finding
findings_on tally others = map (finding_on tally others) (range_with_len 0 (length others))

-- the finding on the first record of a text, if it does not consist of the column names
abbrev pub first_findings : Record → List Finding
first_findings fields =
    if has_names fields then [] else record { number = 1; fields = fields; judgement = Refused refusals.Csv } ∷ []

-- the findings on the first records of a text
abbrev pub begun : Tally → List Record → List Finding
begun tally [] = []
begun tally (first ∷ others) = first_findings first ++ findings_on tally others

-- the findings on all records of a text; a text without records is judged as if it had one record without fields
abbrev pub findings : Tally → List Record → List Finding
findings tally [] = first_findings []
findings tally (first ∷ others) = begun tally (first ∷ others)

abbrev pub refuses : Judgement → Bool
refuses (Refused refusal) = true
refuses judgement = false

abbrev pub stores : Judgement → Bool
stores Stores = true
stores judgement = false

-- the forecast of a loading: how many records are judged, how many of them are refused, and whether one would be stored
abbrev pub forecast_of : List Finding → Forecast
forecast_of found = record {
  records = length found;
  refused = count_by (λ finding. refuses finding.judgement) found;
  stores = list_any (λ finding. stores finding.judgement) found;
}

-- a forecast with one more record
abbrev pub forecast_with : Forecast → Judgement → Forecast
forecast_with forecast judgement = record {
  records = forecast.records + 1;
  refused = forecast.refused + (if refuses judgement then 1 else 0);
  stores = forecast.stores || stores judgement;
}
