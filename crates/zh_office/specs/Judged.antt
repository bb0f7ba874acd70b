-- The results of judging a text.
use Rattle.std.specs.Prelude.{◌≡◌, ◌⊎◌, ◌≤◌, ◌+◌, ◌-◌, ◌^◌, ℕ, List, [], ◌∷◌, drop, length, take, Option, Result, Ok, Err}
use Rattle.std.specs.Io.KnownBytes.{Appends}
use Rattle.zh_returns.specs.Tally.{Tally}
use Rattle.zh_csv.specs.Front.{front_of}
use Rattle.zh_csv.specs.Records.{Record, AreAll, AreFirst}
use Rattle.zh_office.specs.Findings.{begun, findings, findings_on, forecast_of, rows_kept}
use Rattle.zh_office.specs.JudgementText.{finding_lines, judgement_text}
use Rattle.zh_office.specs.declared.judgement.JudgementFault.{JudgementFault}
use Rattle.zh_office.specs.declared.judgement.JudgementFault.TheVariants as faults
use Rattle.zh_office.specs.declared.judgement.Forecast.{Forecast}
use Rattle.zh_office.specs.declared.judging.Progress.{Progress}

-- the state after the first records of a text
pub record IsAfter (tally : Tally) (records : List Record) (progress : Progress) : Type 0 where
  pub rows : progress.rows ≡ rows_kept tally.canton [] (drop 1 records)
  pub counts : progress.counts ≡ forecast_of (begun tally records)

-- the least number of bytes that are unwritten after this fault: a writer does not fail after the last byte
abbrev pub bytes_left : JudgementFault → ℕ
bytes_left faults.Write = 1
bytes_left fault = 0

-- the least number of records that were judged before this fault
abbrev pub records_judged : JudgementFault → ℕ
records_judged faults.Turns = 2 ^ 32 - 2
records_judged fault = 0

-- a prefix of a text is written, and at least `left` bytes remain
abbrev pub WritesUpTo : ℕ → Option (List ℕ) → Option (List ℕ) → List ℕ → Type 0
WritesUpTo left writer writer' text = (front : ℕ) × (front + left ≤ length text) × Appends writer writer' (take front text)

-- a text was broken off by a fault that can occur after any number of records
abbrev pub BreaksOffLine : JudgementFault → Option (List ℕ) → Option (List ℕ) → List ℕ → Type 0
BreaksOffLine fault writer writer' text = (records_judged fault ≡ 0) × WritesUpTo (bytes_left fault) writer writer' text

-- every text with this property has exactly these records, as far as it is read, or (`AreFirstOf`) begins with them
abbrev pub AreAllOf : (List ℕ → Type 0) → List Record → Type 0
AreAllOf IsText records = (bytes : List ℕ) → IsText bytes → AreAll (front_of bytes) records

abbrev pub AreFirstOf : (List ℕ → Type 0) → List Record → Type 0
AreFirstOf IsText records = (bytes : List ℕ) → IsText bytes → AreFirst (front_of bytes) records

-- the whole judgement is written
pub record IsJudged (tally : Tally) (IsText : List ℕ → Type 0) (writer writer' : Option (List ℕ)) (forecast : Forecast) : Type 0 where
  pub records : List Record
  pub all : AreAllOf IsText records
  pub written : Appends writer writer' (judgement_text tally records)
  pub comes_to : forecast ≡ forecast_of (findings tally records)

-- a prefix of the lines on the first records of the text, at least `least` of them, is written; or all records are judged, and a prefix
-- of the whole judgement is written; at least `left` bytes remain
pub record IsBrokenOff (tally : Tally) (IsText : List ℕ → Type 0) (writer writer' : Option (List ℕ)) (left least : ℕ) : Type 0 where
  pub records : List Record
  pub first : AreFirstOf IsText records
  pub enough : least ≤ length records
  pub written : WritesUpTo left writer writer' (finding_lines (begun tally records))
      ⊎ (AreAllOf IsText records × WritesUpTo left writer writer' (judgement_text tally records))

-- what has been written when the judging of a text with this property ends with this result
abbrev pub Judges : Tally → (List ℕ → Type 0) → Option (List ℕ) → Option (List ℕ) → Result Forecast JudgementFault → Type 0
Judges tally IsText writer writer' (Ok forecast) = IsJudged tally IsText writer writer' forecast
Judges tally IsText writer writer' (Err fault) = IsBrokenOff tally IsText writer writer' (bytes_left fault) (records_judged fault)

-- all records after the first are judged
pub record AreJudged (tally : Tally) (first : Record) (IsText : List ℕ → Type 0) (writer writer' : Option (List ℕ))
    (progress : Progress) : Type 0 where
  pub others : List Record
  pub all : AreAllOf IsText (first ∷ others)
  pub written : Appends writer writer' (finding_lines (findings_on tally others))
  pub after : IsAfter tally (first ∷ others) progress

-- some records after the first are judged, and a prefix of the lines on them is written
pub record AreBrokenOff (tally : Tally) (first : Record) (IsText Writes : List ℕ → Type 0) (least : ℕ) : Type 0 where
  pub others : List Record
  pub front : AreFirstOf IsText (first ∷ others)
  pub enough : least ≤ length (first ∷ others)
  pub written : Writes (finding_lines (findings_on tally others))
