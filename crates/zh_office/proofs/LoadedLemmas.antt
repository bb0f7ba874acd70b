-- The findings on the records that a loading reads.
use Rattle.std.proofs.Common.{◌≡◌, ◌≢◌, ◌||◌, ◌⊎◌, inl, inr, ℕ, ◌+◌, List, [], ◌∷◌, ◌++◌, map, Bool, true}
use Rattle.std.proofs.Common.{None, Ok, Err, refl, sym, ap, ◌∙◌, subst, append_assoc}
use Rattle.std.specs.List.{list_any}
use Rattle.std.proofs.Math.Bool.{or-true}
use Rattle.std.proofs.lemmas.List.{append-nil}
use Rattle.zh_returns.specs.declared.row.Row.{Row}
use Rattle.zh_returns.specs.Judgement.{is_accept, is_refusal, judge_row}
use Rattle.zh_returns.specs.Tally.{Tally}
use Rattle.zh_returns.specs.declared.judgement.Verdict.{Verdict}
use Rattle.zh_returns.specs.declared.judgement.Verdict.TheVariants as verdicts
use Rattle.zh_csv.specs.Load.{fields, fault_after, loading, AreLoaded, IsReadable, Loads}
use Rattle.zh_csv.specs.Reading.{HasNoNames, IsUnheld, IsUnread, StopsAt}
use Rattle.zh_csv.specs.Records.{Record, AreAll, names}
use Rattle.zh_csv.specs.declared.batch_reader.LoadFault.{LoadFault}
use Rattle.zh_csv.specs.declared.batch_reader.LoadFault.TheVariants as faults
use Rattle.zh_csv.proofs.CallerLemmas.{all_once, begin_all, no_fault, readable_there}
use Rattle.zh_office.specs.Findings.{Finding, by_verdict, findings, findings_on, judgement, refuses, rows_after, stores}
use Rattle.zh_office.specs.Rows.{row_in}
use Rattle.zh_office.specs.declared.judgement.Judgement.{Judgement}
use Rattle.zh_office.proofs.AnyLemmas.{any_refused, any_stored}
use Rattle.zh_office.proofs.FindingLemmas.{findings_from, found_in_turn}
use Rattle.zh_office.proofs.RowLemmas.{names_found, names_missed, row_in-fields, row_in-unread}

-- a row among rows that can be held together
module _ (tally : Tally) (before : List Row) (row : Row) (others : List Row) (are : AreLoaded tally.canton (before ++ row ∷ others)) where
  reads : row_in (fields row) ≡ Ok row
  reads = row_in-fields row (readable_there tally.canton before row others are)

  fits : fault_after tally.canton before row ≡ None
  fits = no_fault tally.canton before row others are

  judged : judgement tally before (row_in (fields row)) ≡ by_verdict (judge_row tally row)
  judged = rw (reads, fits) refl

  grown : rows_after tally.canton before (row_in (fields row)) ≡ before ++ row ∷ []
  grown = rw (reads, fits) refl

  are_next : AreLoaded tally.canton ((before ++ row ∷ []) ++ others)
  are_next = subst (AreLoaded tally.canton) (sym (append_assoc before (row ∷ []) others)) are

-- whether a finding on one of these records, after these rows, passes the test
abbrev any_judged : (Judgement → Bool) → Tally → ℕ → List Row → List Record → Bool
any_judged p tally number before records = list_any (λ (f : Finding). p f.judgement) (findings_from tally number before records)

-- a test of the findings on such rows is a test of the verdicts on them
any_alike : (p : Judgement → Bool) (q : Verdict → Bool) → ((v : Verdict) → p (by_verdict v) ≡ q v)
    → (tally : Tally) (number : ℕ) (before rows : List Row) → AreLoaded tally.canton (before ++ rows)
    → any_judged p tally number before (map fields rows) ≡ list_any q (map (judge_row tally) rows)
any_alike p q alike tally number before [] are = refl
any_alike p q alike tally number before (row ∷ rows) are =
    let here : p (judgement tally before (row_in (fields row))) ≡ q (judge_row tally row) =
    ap p (judged tally before row rows are) ∙ alike (judge_row tally row) in
    let rest = any_alike p q alike tally (number + 1) (before ++ row ∷ []) rows (are_next tally before row rows are) in
    let before' : List Row = rows_after tally.canton before (row_in (fields row)) in
    let grows : any_judged p tally (number + 1) before' (map fields rows) ≡ list_any q (map (judge_row tally) rows) =
    ap (λ (r : List Row). any_judged p tally (number + 1) r (map fields rows)) (grown tally before row rows are) ∙ rest in
    λ i. here i || grows i

refusal_alike : (v : Verdict) → refuses (by_verdict v) ≡ is_refusal v
refusal_alike verdicts.Accept = refl
refusal_alike verdicts.Same = refl
refusal_alike (verdicts.Refused reason) = refl

stored_alike : (v : Verdict) → stores (by_verdict v) ≡ is_accept v
stored_alike verdicts.Accept = refl
stored_alike verdicts.Same = refl
stored_alike (verdicts.Refused reason) = refl

-- the record at which a loading stops is refused
last_refused : (tally : Tally) (rows : List Row) (last : Record) (fault : LoadFault)
    → (IsUnread fields IsReadable last fault ⊎ IsUnheld (loading tally.canton) rows last fault)
    → refuses (judgement tally rows (row_in last)) ≡ true
last_refused tally rows last fault (inl unread) = rw (row_in-unread last fault unread) refl
last_refused tally rows last fault (inr (row, readable, is, refused)) = rw (is, row_in-fields row readable, refused) refl

-- the records of a text from these rows on, up to this record, and the rest
abbrev up_to : List Row → Record → List Record → List Record
up_to rows last rest = (map fields rows ++ last ∷ []) ++ rest

stop_refused : (tally : Tally) (number : ℕ) (before rows : List Row) (last : Record) (rest : List Record)
    → AreLoaded tally.canton (before ++ rows) → refuses (judgement tally (before ++ rows) (row_in last)) ≡ true
    → any_refused (findings_from tally number before (up_to rows last rest)) ≡ true
stop_refused tally number before [] last rest are refused =
    let here : refuses (judgement tally before (row_in last)) ≡ true =
    subst (λ (r : List Row). refuses (judgement tally r (row_in last)) ≡ true) (append-nil before) refused in
    rw here refl
stop_refused tally number before (row ∷ rows) last rest are refused =
    let still = subst (λ (r : List Row). refuses (judgement tally r (row_in last)) ≡ true) (sym (append_assoc before (row ∷ []) rows)) refused in
    let later = stop_refused tally (number + 1) (before ++ row ∷ []) rows last rest (are_next tally before row rows are) still in
    let before' : List Row = rows_after tally.canton before (row_in (fields row)) in
    let grows : any_refused (findings_from tally (number + 1) before' (up_to rows last rest)) ≡ true =
    ap (λ (r : List Row). any_refused (findings_from tally (number + 1) r (up_to rows last rest))) (grown tally before row rows are) ∙ later in
    let here : Bool = refuses (judgement tally before (row_in (fields row))) in
    ap (λ (b : Bool). here || b) grows ∙ or-true here

-- there is no finding on the column names
after_names : (tally : Tally) (others : List Record) → findings tally (names ∷ others) ≡ findings_from tally 2 [] others
after_names tally others = ap (λ (l : List Finding). l ++ findings_on tally others) (names_found names refl) ∙ found_in_turn tally others

-- a record of the text is refused
abbrev pub FindsRefused : Tally → List Record → Type 0
FindsRefused tally records = any_refused (findings tally records) ≡ true

-- the loading refuses the text
unnamed_refused : (tally : Tally) (text : List ℕ) (records : List Record) → AreAll text records → HasNoNames text → FindsRefused tally records
unnamed_refused tally text records all (inl none) = rw (all_once text records [] all none) refl
unnamed_refused tally text records all (inr (first, begins, other)) =
    let (rest, is) = begin_all text records (first ∷ []) all begins in
    let bad = names_missed first other in
    rw (is, bad) refl

stopped_refused : (tally : Tally) (text : List ℕ) (records : List Record) (fault : LoadFault) → AreAll text records
    → StopsAt (loading tally.canton) text fault → FindsRefused tally records
stopped_refused tally text records fault all stops =
    let (rest, is) = begin_all text records (names ∷ (map fields stops.rows ++ stops.last ∷ [])) all stops.records in
    ap (λ (r : List Record). any_refused (findings tally r)) is
    ∙ ap any_refused (after_names tally (up_to stops.rows stops.last rest))
    ∙ stop_refused tally 2 [] stops.rows stops.last rest stops.held (last_refused tally stops.rows stops.last fault stops.refused)

pub fault_refused : (tally : Tally) (text : List ℕ) (records : List Record) (fault : LoadFault) → fault ≢ faults.Memory → fault ≢ faults.Read
    → AreAll text records → Loads tally.canton text (Err fault) → FindsRefused tally records
fault_refused tally text records fault memory read all refused = elim (refused memory read) [
  | inl (csv, unnamed) ↦ unnamed_refused tally text records all unnamed
  | inr stops ↦ stopped_refused tally text records fault all stops
]

-- the loading reads the text
module _ (tally : Tally) (text : List ℕ) (records : List Record) (rows : List Row) (all : AreAll text records)
    (loads : Loads tally.canton text (Ok rows)) where
  records_are : records ≡ names ∷ map fields rows
  records_are = all_once text records (names ∷ map fields rows) all loads.0

  found_are : findings tally records ≡ findings_from tally 2 [] (map fields rows)
  found_are = ap (findings tally) records_are ∙ after_names tally (map fields rows)

  pub refused_are : any_refused (findings tally records) ≡ list_any is_refusal (map (judge_row tally) rows)
  refused_are = ap any_refused found_are ∙ any_alike refuses is_refusal refusal_alike tally 2 [] rows loads.1

  pub stored_are : any_stored (findings tally records) ≡ list_any is_accept (map (judge_row tally) rows)
  stored_are = ap any_stored found_are ∙ any_alike stores is_accept stored_alike tally 2 [] rows loads.1
