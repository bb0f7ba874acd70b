-- The judgement of a text: a line for each refused record, and a last line that sums up the forecast. 10 ends a line, 32 is the space, 44
-- the comma.
use Rattle.std.specs.Prelude.{ℕ, ◌==◌, ◌&&◌, nat_lt, if◌then◌else◌, Bool, List, [], ◌∷◌, ◌++◌, drop, codes, decimal}
use Rattle.std.specs.Cmp.Lexicographic.{pointwise}
use Rattle.std.specs.List.{flat_map}
use Rattle.std.specs.Str.{bytes_eq}
use Rattle.zh_commands.specs.Replies.{answer}
use Rattle.zh_commands.specs.declared.replies.Reply.TheVariants as replies
use Rattle.zh_commands.specs.declared.replies.Refusal.{Refusal}
use Rattle.zh_csv.specs.Records.{Record}
use Rattle.zh_text.specs.Shown.{shown_text}
use Rattle.zh_text.specs.declared.shown.ShownNames.TheVariants as names
use Rattle.zh_returns.specs.Tally.{Tally}
use Rattle.zh_office.specs.Findings.{Finding, findings, forecast_of}
use Rattle.zh_office.specs.declared.judgement.Forecast.{Forecast}
use Rattle.zh_office.specs.declared.judgement.Judgement.{Judgement}
use Rattle.zh_office.specs.declared.judgement.Judgement.TheVariants.{Refused}

-- a field as it is shown; a byte order mark is replaced by its name
abbrev pub shown_field : List ℕ → List ℕ
shown_field field = shown_text names.Mark field

-- fields, each after a comma
abbrev pub after_commas : Record → List ℕ
after_commas fields = flat_map (λ field. 44 ∷ shown_field field) fields

-- fields, separated by commas
abbrev pub joined : Record → List ℕ
joined fields = drop 1 (after_commas fields)

-- whether a record consists of the column names separated by semicolons, which make them one field
abbrev pub has_semicolons : Record → Bool
has_semicolons fields = pointwise bytes_eq fields (codes "municipality;list;number;votes" ∷ [])

-- the advice on converting a text, if this is its first record and semicolons separate its column names
abbrev pub conversion : ℕ → Record → List ℕ
conversion number fields =
    if (number == 1) && has_semicolons fields then codes "semicolons are between the fields, not commas: convert the file by tr ';' ','\n"
    else []

-- the line of a refused record: its row number, its fields, and the refusal as a reply spells it
abbrev pub refused_line : ℕ → Record → Refusal → List ℕ
refused_line number fields refusal =
    codes "row " ++ decimal number ++ codes ": " ++ joined fields ++ 32 ∷ answer (replies.Refused refusal) ++ 10 ∷ []
    ++ conversion number fields

-- the line of a record, which only a refused one has
abbrev pub line_by : ℕ → Record → Judgement → List ℕ
line_by number fields (Refused refusal) = refused_line number fields refusal
line_by number fields judgement = []

abbrev pub line_of : Finding → List ℕ
line_of finding = line_by finding.number finding.fields finding.judgement

abbrev pub finding_lines : List Finding → List ℕ
finding_lines found = flat_map line_of found

-- how many of the records are refused
abbrev pub refused_text : ℕ → ℕ → List ℕ
refused_text refused records = codes "refused " ++ decimal refused ++ codes " of " ++ decimal records ++ codes " records\n"

-- the last line, which sums up the forecast
abbrev pub forecast_text : Forecast → List ℕ
forecast_text forecast =
    if nat_lt 0 forecast.refused then refused_text forecast.refused forecast.records
    else if forecast.stores then codes "would store\n"
    else codes "same\n"

-- the whole judgement of a text with these records
abbrev pub judgement_text : Tally → List Record → List ℕ
judgement_text tally records = finding_lines (findings tally records) ++ forecast_text (forecast_of (findings tally records))
