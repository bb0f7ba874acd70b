-- Records judged one after another.
use Rattle.std.proofs.Common.{◌≡◌, ◌≤◌, ◌+◌, ℕ, List, [], ◌∷◌, ◌++◌, length, Option, refl, sym, ap, ◌∙◌, subst, arith}
use Rattle.std.specs.Io.KnownBytes.{Appends}
use Rattle.std.proofs.lemmas.List.{length_push}
use Rattle.csv.specs.declared.reader.Reader.{Reader}
use Rattle.zh_returns.specs.declared.row.Row.{Row}
use Rattle.zh_returns.specs.Tally.{Tally}
use Rattle.zh_record_text.proofs.CallerLemmas.{Appends-join}
use Rattle.zh_csv.specs.Front.{front_of}
use Rattle.zh_csv.specs.Records.{Record, AreAll, HasRead}
use Rattle.zh_csv.specs.declared.records.ReadFault.{ReadFault}
use Rattle.zh_csv.specs.declared.records.ReadFault.TheVariants as reading
use Rattle.zh_csv.proofs.CallerLemmas.{are_first}
use Rattle.zh_office.specs.Findings.{judgement, rows_after, rows_kept, findings_on, begun, forecast_of, forecast_with}
use Rattle.zh_office.specs.Judged.{AreBrokenOff, AreJudged, IsAfter, WritesUpTo, BreaksOffLine, bytes_left, records_judged}
use Rattle.zh_office.specs.Rows.{row_in}
use Rattle.zh_office.specs.JudgementText.{line_by, line_of, finding_lines}
use Rattle.zh_office.specs.declared.judgement.JudgementFault.{JudgementFault}
use Rattle.zh_office.specs.declared.judgement.JudgementFault.TheVariants as faults
use Rattle.zh_office.specs.declared.judgement.Forecast.{Forecast}
use Rattle.zh_office.specs.declared.judgement.Judgement.{Judgement}
use Rattle.zh_office.specs.declared.judgement.Judgement.TheVariants.{Stores, Same, Refused}
use Rattle.zh_office.specs.declared.judging.Progress.{Progress}
use Rattle.zh_office.proofs.FindingLemmas.{begun_push, counts_push, findings_push, lines_push, next_finding, rows_push}
use Rattle.zh_office.proofs.FrontLemmas.{all_written, front_after}

-- a fault of the reader can occur after any number of records, and needs no unwritten byte
pub reader_early : (error : ReadFault) (fault : JudgementFault)
    → (error ≡ reading.Memory → fault ≡ faults.Memory) × (error ≡ reading.Read → fault ≡ faults.Read)
    → (bytes_left fault ≡ 0) × (records_judged fault ≡ 0)
reader_early reading.Memory fault is = rw (is.0 refl) (refl, refl)
reader_early reading.Read fault is = rw (is.1 refl) (refl, refl)

-- the lines on the records after the first
abbrev pub other_lines : Tally → List Record → List ℕ
other_lines tally others = finding_lines (findings_on tally others)

-- the reader gave this first record of a text and no other
abbrev pub GaveFirst : {R : Type 0} → (R → Option (List ℕ)) → Record → Reader R → List ℕ → Type 0
GaveFirst remaining first reader bytes = HasRead remaining (front_of bytes) (first ∷ []) reader

-- the reader gives this record next
abbrev pub GivesNext : {R : Type 0} → (R → Option (List ℕ)) → Record → Reader R → Reader R → Type 0
GivesNext remaining fields now next =
    (bytes : List ℕ) (given : List Record) → HasRead remaining (front_of bytes) given now
    → HasRead remaining (front_of bytes) (given ++ fields ∷ []) next

-- the reader gives no further record
abbrev pub GivesNone : {R : Type 0} → (R → Option (List ℕ)) → Reader R → Type 0
GivesNone remaining now =
    (bytes : List ℕ) (given : List Record) → HasRead remaining (front_of bytes) given now → AreAll (front_of bytes) given

-- some records after the first are judged; the next one has this number
pub record HasJudged {R : Type 0} (remaining : R → Option (List ℕ)) (tally : Tally) (first : Record) (old new : Reader R)
    (w w' : Option (List ℕ)) (number : ℕ) (progress : Progress) : Type 0 where
  pub others : List Record
  pub count : number ≡ 2 + length others
  pub given : (bytes : List ℕ) → GaveFirst remaining first old bytes → HasRead remaining (front_of bytes) (first ∷ others) new
  pub written : Appends w w' (other_lines tally others)
  pub after : IsAfter tally (first ∷ others) progress

module _ {R : Type 0} (remaining : R → Option (List ℕ)) (tally : Tally) (first : Record) (old : Reader R) (w : Option (List ℕ)) where
  pub none_judged : (progress : Progress) → IsAfter tally (first ∷ []) progress → Appends w w []
      → HasJudged remaining tally first old old w w 2 progress
  none_judged progress after nothing = record { others = []; count = refl; given = λ bytes has. has; written = nothing; after = after }

  module _ (now next : Reader R) (w' w'' : Option (List ℕ)) (number : ℕ) (progress : Progress) (fields : Record)
      (has : HasJudged remaining tally first old now w w' number progress) (gives : GivesNext remaining fields now next) where
    -- its judgement and its line
    abbrev its : Judgement
    its = judgement tally progress.rows (row_in fields)

    abbrev its_line : List ℕ
    its_line = line_by number fields its

    rows_are : progress.rows ≡ rows_kept tally.canton [] has.others
    rows_are = has.after.rows

    line_is : its_line ≡ line_of (next_finding tally 2 [] has.others fields)
    line_is = ap (λ (n : ℕ). line_by n fields its) has.count
        ∙ ap (λ (rows : List Row). line_by (2 + length has.others) fields (judgement tally rows (row_in fields))) rows_are

    lines_are : other_lines tally has.others ++ its_line ≡ other_lines tally (has.others ++ fields ∷ [])
    lines_are = ap (λ (l : List ℕ). other_lines tally has.others ++ l) line_is
        ∙ sym (lines_push (findings_on tally has.others) (next_finding tally 2 [] has.others fields))
        ∙ ap finding_lines (sym (findings_push tally has.others fields))

    -- one more record is judged
    pub judged_more : (progress' : Progress) → progress'.rows ≡ rows_after tally.canton progress.rows (row_in fields)
        → progress'.counts ≡ forecast_with progress.counts its → Appends w' w'' its_line
        → HasJudged remaining tally first old next w w'' (number + 1) progress'
    judged_more progress' rows counts written = record {
      others = has.others ++ fields ∷ [];
      count = omega (arith, has.count, length_push has.others fields);
      given = λ bytes begins. gives bytes (first ∷ has.others) (has.given bytes begins);
      written = subst (Appends w w'') lines_are (Appends-join w w' w'' (other_lines tally has.others) _ has.written written);
      after = record {
        rows = rows ∙ ap (λ (r : List Row). rows_after tally.canton r (row_in fields)) rows_are
            ∙ sym (rows_push tally.canton [] has.others fields);
        counts = counts ∙ ap (λ (r : List Row). forecast_with progress.counts (judgement tally r (row_in fields))) rows_are
            ∙ ap (λ n. forecast_with n (judgement tally (rows_kept tally.canton [] has.others) (row_in fields))) has.after.counts
            ∙ sym (counts_push (begun tally (first ∷ has.others)) (next_finding tally 2 [] has.others fields))
            ∙ ap forecast_of (sym (begun_push tally first has.others fields));
      };
    }

    -- the writer fails in this line
    pub broken_at : (fault : JudgementFault) → BreaksOffLine fault w' w'' its_line
        → AreBrokenOff tally first (GaveFirst remaining first old) (WritesUpTo (bytes_left fault) w w'') (records_judged fault)
    broken_at fault (early, front) = record {
      others = has.others ++ fields ∷ [];
      front = λ bytes begins.
          are_first remaining (front_of bytes) (first ∷ (has.others ++ fields ∷ [])) next
          (gives bytes (first ∷ has.others) (has.given bytes begins));
      enough = omega (arith, early);
      written = subst (WritesUpTo (bytes_left fault) w w'') lines_are
          (front_after _ w w' w'' (other_lines tally has.others) _ has.written front);
    }

  module _ (now : Reader R) (w' : Option (List ℕ)) (number : ℕ) (progress : Progress)
      (has : HasJudged remaining tally first old now w w' number progress) where
    -- the reader gives no further record, or no more records are taken
    pub broken_between : (left least : ℕ) → left ≡ 0 → least + 1 ≤ number
        → AreBrokenOff tally first (GaveFirst remaining first old) (WritesUpTo left w w') least
    broken_between left least none few = record {
      others = has.others;
      front = λ bytes begins. are_first remaining (front_of bytes) (first ∷ has.others) now (has.given bytes begins);
      enough = omega (arith, few, has.count);
      written = all_written left w w' (other_lines tally has.others) none has.written;
    }

    -- the text has ended
    pub all_judged : GivesNone remaining now → AreJudged tally first (GaveFirst remaining first old) w w' progress
    all_judged ends = record {
      others = has.others;
      all = λ bytes begins. ends bytes (first ∷ has.others) (has.given bytes begins);
      written = has.written;
      after = has.after;
    }

-- at most as many records are refused as there are
pub forecast_within : (counts : Forecast) (judgement : Judgement) → counts.refused ≤ counts.records → (forecast_with counts judgement).refused ≤ (forecast_with counts judgement).records
forecast_within counts Stores within = omega arith
forecast_within counts Same within = omega arith
forecast_within counts (Refused refusal) within = omega arith
