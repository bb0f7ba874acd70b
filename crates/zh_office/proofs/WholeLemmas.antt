-- The lines on all records of a text and the last line.
use Rattle.std.proofs.Common.{◌≡◌, ℕ, List, [], ◌∷◌, ◌++◌, Option, Result, Ok, Err, IfErr, IfOk, OnOk}
use Rattle.std.proofs.Common.{sym, ◌∙◌, subst, arith, inl, inr}
use Rattle.std.specs.Prelude.{MatchResult}
use Rattle.std.specs.Io.KnownBytes.{Appends}
use Rattle.std.proofs.lemmas.Grind.{flat_map-append}
use Rattle.zh_returns.specs.Tally.{Tally}
use Rattle.zh_record_text.proofs.CallerLemmas.{Appends-join}
use Rattle.zh_csv.specs.Front.{front_of}
use Rattle.zh_csv.specs.Records.{Record}
use Rattle.zh_csv.proofs.CallerLemmas.{all_first}
use Rattle.zh_office.specs.Findings.{findings_on, first_findings, begun, findings, forecast_of}
use Rattle.zh_office.specs.Judged.{AreAllOf, AreBrokenOff, AreFirstOf, AreJudged, IsAfter, IsBrokenOff, IsJudged, Judges}
use Rattle.zh_office.specs.Judged.{WritesUpTo, BreaksOffLine, bytes_left, records_judged}
use Rattle.zh_office.specs.JudgementText.{forecast_text, judgement_text, line_of, finding_lines}
use Rattle.zh_office.specs.declared.judgement.JudgementFault.{JudgementFault}
use Rattle.zh_office.specs.declared.judgement.Forecast.{Forecast}
use Rattle.zh_office.specs.declared.judging.Progress.{Progress}
use Rattle.zh_office.proofs.FrontLemmas.{front_after, front_more}
use Rattle.zh_office.proofs.JudgedLemmas.{other_lines}

-- the line of the first record, if it is refused
abbrev pub first_lines : Record → List ℕ
first_lines first = finding_lines (first_findings first)

-- the lines of the first record and of the others
lines_both : (tally : Tally) (first : Record) (others : List Record)
    → finding_lines (begun tally (first ∷ others)) ≡ first_lines first ++ other_lines tally others
lines_both tally first others = flat_map-append line_of (first_findings first) (findings_on tally others)

-- the last line is written or broken off
pub record WritesLast (counts : Forecast) (w w' : Option (List ℕ)) (result : Result Forecast JudgementFault) : Type 0 where
  pub comes_to : IfOk result (λ forecast. forecast ≡ counts)
  pub all : OnOk result (Appends w w' (forecast_text counts))
  pub front : IfErr result (λ fault. BreaksOffLine fault w w' (forecast_text counts))

module _ (tally : Tally) (first : Record) (IsText : List ℕ → Type 0) (w w' : Option (List ℕ)) where
  -- the first line is broken off
  pub first_broken : (fault : JudgementFault) → AreFirstOf IsText (first ∷ []) → BreaksOffLine fault w w' (first_lines first)
      → IsBrokenOff tally IsText w w' (bytes_left fault) (records_judged fault)
  first_broken fault begins (early, front) =
      let more = front_more _ w w' (first_lines first) (other_lines tally []) front in
      record {
        records = first ∷ [];
        first = begins;
        enough = omega (arith, early);
        written = inl (subst (WritesUpTo (bytes_left fault) w w') (sym (lines_both tally first [])) more);
      }

  -- the lines of the other records are broken off
  pub others_broken : (left least : ℕ) (w'' : Option (List ℕ)) → Appends w w' (first_lines first)
      → AreBrokenOff tally first IsText (WritesUpTo left w' w'') least → IsBrokenOff tally IsText w w'' left least
  others_broken left least w'' written broken =
      let after = front_after left w w' w'' (first_lines first) (other_lines tally broken.others) written broken.written in
      record {
        records = first ∷ broken.others;
        first = broken.front;
        enough = broken.enough;
        written = inl (subst (WritesUpTo left w w'') (sym (lines_both tally first broken.others)) after);
      }

  module _ (w'' : Option (List ℕ)) (progress : Progress) (written : Appends w w' (first_lines first))
      (judged : AreJudged tally first IsText w' w'' progress) where
    abbrev all_lines : List ℕ
    all_lines = finding_lines (findings tally (first ∷ judged.others))

    abbrev its_forecast : Forecast
    its_forecast = forecast_of (findings tally (first ∷ judged.others))

    lines_written : Appends w w'' all_lines
    lines_written =
        let both = Appends-join w w' w'' (first_lines first) (other_lines tally judged.others) written judged.written in
        subst (Appends w w'') (sym (lines_both tally first judged.others)) both

    comes_to : progress.counts ≡ its_forecast
    comes_to = judged.after.counts

    -- the last line is broken off
    pub last_broken : (fault : JudgementFault) (w3 : Option (List ℕ)) → BreaksOffLine fault w'' w3 (forecast_text progress.counts)
        → IsBrokenOff tally IsText w w3 (bytes_left fault) (records_judged fault)
    last_broken fault w3 (early, front) =
        let of_last = subst (λ (f : Forecast). WritesUpTo (bytes_left fault) w'' w3 (forecast_text f)) comes_to front in
        record {
          records = first ∷ judged.others;
          first = λ bytes is. all_first (front_of bytes) (first ∷ judged.others) (judged.all bytes is);
          enough = omega (arith, early);
          written = inr (judged.all, front_after _ w w'' w3 all_lines (forecast_text its_forecast) lines_written of_last);
        }

    -- everything is written
    pub whole_judged : (w3 : Option (List ℕ)) (forecast : Forecast) → forecast ≡ progress.counts
        → Appends w'' w3 (forecast_text progress.counts) → IsJudged tally IsText w w3 forecast
    whole_judged w3 forecast is last =
        let of_last = subst (λ (f : Forecast). Appends w'' w3 (forecast_text f)) comes_to last in
        record {
          records = first ∷ judged.others;
          all = judged.all;
          written = Appends-join w w'' w3 all_lines _ lines_written of_last;
          comes_to = is ∙ comes_to;
        }

-- the same for a text of which less is known
pub judges_of : (tally : Tally) (IsText Known : List ℕ → Type 0) (w w' : Option (List ℕ)) (result : Result Forecast JudgementFault)
    → ((bytes : List ℕ) → Known bytes → IsText bytes) → Judges tally IsText w w' result → Judges tally Known w w' result
judges_of tally IsText Known w w' (Ok forecast) known judged = record {
  records = judged.records;
  all = λ bytes is. judged.all bytes (known bytes is);
  written = judged.written;
  comes_to = judged.comes_to;
}
judges_of tally IsText Known w w' (Err fault) known broken = record {
  records = broken.records;
  first = λ bytes is. broken.first bytes (known bytes is);
  enough = broken.enough;
  written = elim broken.written [
    | inl front ↦ inl front
    | inr (all, front) ↦ inr (λ bytes is. all bytes (known bytes is), front)
  ];
}

-- a text without records is judged, or its judgement is broken off
abbrev pub JudgesNone : Tally → Option (List ℕ) → Option (List ℕ) → Result Forecast JudgementFault → Type 0
JudgesNone tally w w' result =
    MatchResult result (λ forecast. Appends w w' (judgement_text tally []) × (forecast ≡ forecast_of (findings tally [])))
    (λ fault. BreaksOffLine fault w w' (judgement_text tally []))

pub none_written_whole : (tally : Tally) (w w' w'' : Option (List ℕ)) (result : Result Forecast JudgementFault) (progress : Progress)
    → IsAfter tally ([] ∷ []) progress → Appends w w' (first_lines []) → WritesLast progress.counts w' w'' result
    → JudgesNone tally w w'' result
none_written_whole tally w w' w'' (Ok forecast) progress after first last =
    let same : progress.counts ≡ forecast_of (findings tally []) = after.counts in
    let of_last = subst (λ (f : Forecast). Appends w' w'' (forecast_text f)) same last.all in
    (Appends-join w w' w'' (first_lines []) (forecast_text (forecast_of (findings tally []))) first of_last, last.comes_to ∙ same)
none_written_whole tally w w' w'' (Err fault) progress after first last =
    let same : progress.counts ≡ forecast_of (findings tally []) = after.counts in
    let of_last = subst (λ (f : Forecast). WritesUpTo (bytes_left fault) w' w'' (forecast_text f)) same last.front.1 in
    (last.front.0, front_after _ w w' w'' (first_lines []) (forecast_text (forecast_of (findings tally []))) first of_last)

pub none_judges : (tally : Tally) (IsText : List ℕ → Type 0) (w w' : Option (List ℕ)) (result : Result Forecast JudgementFault)
    → AreAllOf IsText [] → JudgesNone tally w w' result → Judges tally IsText w w' result
none_judges tally IsText w w' (Ok forecast) all judged = record { records = []; all = all; written = judged.0; comes_to = judged.1 }
none_judges tally IsText w w' (Err fault) all (early, front) = record {
  records = [];
  first = λ bytes is. all_first (front_of bytes) [] (all bytes is);
  enough = omega (arith, early);
  written = inr (all, front);
}

-- the last line, written or not
pub last_judges : (tally : Tally) (first : Record) (IsText : List ℕ → Type 0) (w w' w'' w3 : Option (List ℕ)) (progress : Progress)
    (result : Result Forecast JudgementFault) → Appends w w' (first_lines first) → AreJudged tally first IsText w' w'' progress
    → WritesLast progress.counts w'' w3 result → Judges tally IsText w w3 result
last_judges tally first IsText w w' w'' w3 progress (Ok forecast) written judged last =
    whole_judged tally first IsText w w' w'' progress written judged w3 forecast last.comes_to last.all
last_judges tally first IsText w w' w'' w3 progress (Err fault) written judged last =
    last_broken tally first IsText w w' w'' progress written judged fault w3 last.front
