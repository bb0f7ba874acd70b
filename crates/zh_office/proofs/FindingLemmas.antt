-- The findings with one more record.
use Rattle.std.proofs.Common.{◌≡◌, ◌<◌, ◌+◌, ◌||◌, ℕ, zero, suc, Some, slice_get, get_or, take, map, List, [], ◌∷◌, ◌++◌, length}
use Rattle.std.proofs.Common.{refl, sym, ap, ◌∙◌, arith, Bool, append_assoc, if◌then◌else◌}
use Rattle.std.specs.List.{list_any, range_with_len}
use Rattle.std.specs.Prelude.{count_by}
use Rattle.std.proofs.lemmas.Grind.{common_steps, flat_map-append}
use Rattle.std.proofs.lemmas.List.{append-nil, length_push, take_more}
use Rattle.std.proofs.lemmas.List.Folds.{list_any-append}
use Rattle.zh_districts.specs.Canton.{Canton}
use Rattle.zh_returns.specs.declared.row.Row.{Row}
use Rattle.zh_returns.specs.Tally.{Tally}
use Rattle.zh_csv.specs.Records.{Record}
use Rattle.zh_office.specs.Findings.{Finding, judgement, rows_after, rows_kept, findings_on, first_findings, begun, finding_on}
use Rattle.zh_office.specs.Findings.{forecast_of, forecast_with, refuses, stores}
use Rattle.zh_office.specs.Rows.{row_in}
use Rattle.zh_office.specs.JudgementText.{line_of, finding_lines}

pub rows_push : (canton : Canton) (rows : List Row) (records : List Record) (fields : Record)
    → rows_kept canton rows (records ++ fields ∷ []) ≡ rows_after canton (rows_kept canton rows records) (row_in fields)
rows_push canton rows [] fields = refl
rows_push canton rows (first ∷ records) fields = rows_push canton (rows_after canton rows (row_in first)) records fields

-- the finding on a record with this number, after these rows
abbrev pub finding_after : Tally → List Row → Record → ℕ → Finding
finding_after tally rows fields number = record { number = number; fields = fields; judgement = judgement tally rows (row_in fields) }

-- the finding on a record after these rows and the rows that are kept of these records
abbrev pub next_finding : Tally → ℕ → List Row → List Record → Record → Finding
next_finding tally number rows records fields =
    finding_after tally (rows_kept tally.canton rows records) fields (number + length records)

-- the findings on records after these rows, where the first record has this number
abbrev pub findings_from : Tally → ℕ → List Row → List Record → List Finding
findings_from tally number rows [] = []
findings_from tally number rows (fields ∷ others) =
    finding_after tally rows fields number ∷ findings_from tally (number + 1) (rows_after tally.canton rows (row_in fields)) others

-- from this place on, each finding is the one on its record after the records before it
abbrev AreFound : Tally → ℕ → List Row → List Record → (ℕ → Finding) → ℕ → Type 0
AreFound tally number rows records finding a =
    (k : ℕ) → k < length records
    → finding (a + k) ≡ finding_after tally (rows_kept tally.canton rows (take k records)) (get_or records k []) (number + k)

found_range : (tally : Tally) (number : ℕ) (rows : List Row) (records : List Record) (finding : ℕ → Finding) (a : ℕ)
    → AreFound tally number rows records finding a
    → map finding (range_with_len a (length records)) ≡ findings_from tally number rows records
found_range tally number rows [] finding a each = refl
found_range tally number rows (first ∷ records) finding a each =
    let rows' : List Row = rows_after tally.canton rows (row_in first) in
    let here : finding a ≡ finding_after tally rows first number =
    ap finding (omega arith) ∙ each 0 (omega arith) ∙ ap (finding_after tally rows first) (omega arith) in
    let next : AreFound tally (number + 1) rows' records finding (a + 1) = λ k within.
    ap finding (omega arith) ∙ each (suc k) (omega (arith, within))
    ∙ ap (finding_after tally (rows_kept tally.canton rows' (take k records)) (get_or records k [])) (omega arith) in
    ap (λ (f : Finding). f ∷ map finding (range_with_len (a + 1) (length records))) here
    ∙ ap (λ (l : List Finding). finding_after tally rows first number ∷ l)
    (found_range tally (number + 1) rows' records finding (a + 1) next)

-- the findings, one after another
pub found_in_turn : (tally : Tally) (others : List Record) → findings_on tally others ≡ findings_from tally 2 [] others
found_in_turn tally others =
    found_range tally 2 [] others (finding_on tally others) 0 (λ k within. ap (finding_on tally others) (omega arith))

pushed : (tally : Tally) (number : ℕ) (rows : List Row) (records : List Record) (fields : Record)
    → findings_from tally number rows (records ++ fields ∷ [])
    ≡ findings_from tally number rows records ++ next_finding tally number rows records fields ∷ []
pushed tally number rows [] fields = ap (λ (n : ℕ). finding_after tally rows fields n ∷ []) (omega arith)
pushed tally number rows (first ∷ records) fields =
    let rows' : List Row = rows_after tally.canton rows (row_in first) in
    let rest = pushed tally (number + 1) rows' records fields in
    let n : number + 1 + length records ≡ number + length (first ∷ records) = omega arith in
    let last : ℕ → Finding = finding_after tally (rows_kept tally.canton rows' records) fields in
    ap (λ (l : List Finding). finding_after tally rows first number ∷ l)
    (rest ∙ ap (λ (m : ℕ). findings_from tally (number + 1) rows' records ++ last m ∷ []) n)

pub findings_push : (tally : Tally) (others : List Record) (fields : Record)
    → findings_on tally (others ++ fields ∷ []) ≡ findings_on tally others ++ next_finding tally 2 [] others fields ∷ []
findings_push tally others fields =
    found_in_turn tally (others ++ fields ∷ []) ∙ pushed tally 2 [] others fields
    ∙ ap (λ (l : List Finding). l ++ next_finding tally 2 [] others fields ∷ []) (sym (found_in_turn tally others))

pub begun_push : (tally : Tally) (first : Record) (others : List Record) (fields : Record)
    → begun tally (first ∷ (others ++ fields ∷ [])) ≡ begun tally (first ∷ others) ++ next_finding tally 2 [] others fields ∷ []
begun_push tally first others fields =
    ap (λ (l : List Finding). first_findings first ++ l) (findings_push tally others fields)
    ∙ sym (append_assoc (first_findings first) (findings_on tally others) (next_finding tally 2 [] others fields ∷ []))

count_push : (p : Finding → Bool) (found : List Finding) (one : Finding)
    → count_by p (found ++ one ∷ []) ≡ count_by p found + (if p one then 1 else 0)
count_push p [] one = grind (arith, common_steps)
count_push p (f ∷ found) one = grind (arith, common_steps, count_push p found one)

any_push : (p : Finding → Bool) (found : List Finding) (one : Finding) → list_any p (found ++ one ∷ []) ≡ (list_any p found || p one)
any_push p found one = list_any-append p found (one ∷ []) ∙ grind (arith, common_steps)

pub counts_push : (found : List Finding) (one : Finding) → forecast_of (found ++ one ∷ []) ≡ forecast_with (forecast_of found) one.judgement
counts_push found one =
    let n = length_push found one in
    let r = count_push (λ f. refuses f.judgement) found one in
    let s = any_push (λ f. stores f.judgement) found one in
    λ i. record { records = n i; refused = r i; stores = s i }

pub lines_push : (found : List Finding) (one : Finding) → finding_lines (found ++ one ∷ []) ≡ finding_lines found ++ line_of one
lines_push found one = flat_map-append line_of found (one ∷ []) ∙ ap (λ (l : List ℕ). finding_lines found ++ l) (append-nil (line_of one))

at_range : (finding : ℕ → Finding) (a n k : ℕ) → k < n → slice_get (map finding (range_with_len a n)) k ≡ Some (finding (a + k))
at_range finding a zero k within = absurd (omega arith)
at_range finding a (suc n) zero within = ap (λ (m : ℕ). Some (finding m)) (omega arith)
at_range finding a (suc n) (suc k) within = at_range finding (a + 1) n k (omega (arith, within)) ∙ ap (λ (m : ℕ). Some (finding m)) (omega arith)

-- the finding at a place
pub judged_at : (tally : Tally) (others : List Record) (k : ℕ) → k < length others → slice_get (findings_on tally others) k ≡ Some (finding_on tally others k)
judged_at tally others k within =
    at_range (finding_on tally others) 0 (length others) k within ∙ ap (λ (m : ℕ). Some (finding_on tally others m)) (omega arith)

pub kept_after : (canton : Canton) (others : List Record) (k : ℕ) → k < length others
    → rows_kept canton [] (take (k + 1) others) ≡ rows_after canton (rows_kept canton [] (take k others)) (row_in (get_or others k []))
kept_after canton others k within = ap (rows_kept canton []) (take_more others k [] within) ∙ rows_push canton [] (take k others) (get_or others k [])
