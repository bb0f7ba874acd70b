-- Why a text is refused, for rows of any kind.
use Rattle.std.proofs.Common.{◌≡◌, ◌≢◌, ◌≤◌, ◌<◌, ◌&&◌, ◌==◌, nat_le, ◌⊎◌, inl, inr, ℕ, suc, List, [], ◌∷◌, ◌++◌, map, length}
use Rattle.std.proofs.Common.{length-append, append_assoc, All, Bool, true, false, Option, None, Result, Ok, Err, refl, sym, ap, ◌∙◌}
use Rattle.std.proofs.Common.{subst, arith}
use Rattle.std.proofs.lemmas.Bool.Decides.{nat_tests}
use Rattle.std.proofs.lemmas.List.{map-append}
use Rattle.csv.specs.declared.reader.Reader.{Reader}
use Rattle.zh_csv.specs.Front.{front_of, most_bytes}
use Rattle.zh_csv.specs.Records.{Record, AreAll, AreFirst, HasRead, names, may_be_row, record_size}
use Rattle.zh_csv.specs.Reading.{RowKind, HasNoNames, IsUnheld, IsUnread, Refuses, StopsAt, ReadsRows}
use Rattle.zh_csv.specs.declared.batch_reader.LoadFault.{LoadFault}
use Rattle.zh_csv.specs.declared.batch_reader.LoadFault.TheVariants as faults
use Rattle.zh_csv.proofs.CutLemmas.{EndsInPart, all_of_front, first_of_front}
use Rattle.zh_csv.proofs.RecordsLemmas.{begin_all}

-- a proper kind of row: each readable row has a record of its own, which can be that of a row; if rows are held together, each of them is
-- readable and can follow those before it
pub record IsKind {X : Type 0} (kind : RowKind X) : Type 0 where
  pub may : (row : X) → kind.IsReadable row → may_be_row (kind.fields row) ≡ true
  pub once : (row other : X) → kind.IsReadable row → kind.IsReadable other → kind.fields row ≡ kind.fields other → row ≡ other
  pub readable : (rows : List X) → kind.AreHeld rows → All kind.IsReadable rows
  pub follows : (rows : List X) (row : X) (others : List X) → kind.AreHeld (rows ++ row ∷ others) → kind.fault_after rows row ≡ None

-- a record that can be that of a row is not too long
short_enough : (last : Record) → may_be_row last ≡ true → most_bytes < record_size last → ⊥
short_enough last may long = by (length last == 4) refl may
  where
    by : (b : Bool) → (length last == 4) ≡ b → (b && nat_le (record_size last) most_bytes) ≡ true → ⊥
    by true four is = let short : record_size last ≤ most_bytes = grind (arith, nat_tests) in absurd (omega arith)
    by false other is = cc is

pub too_long : (last : Record) → most_bytes < record_size last → may_be_row last ≡ false
too_long last long = by (may_be_row last) refl
  where
    by : (b : Bool) → may_be_row last ≡ b → b ≡ false
    by true may = absurd (short_enough last may long)
    by false may = refl

-- four short fields
pub four_short : (a b c d : List ℕ) → length a ≤ 10 → length b ≤ 10 → length c ≤ 10 → length d ≤ 10 → may_be_row (a ∷ b ∷ c ∷ d ∷ []) ≡ true
four_short a b c d x y z w = let short : record_size (a ∷ b ∷ c ∷ d ∷ []) ≤ most_bytes = omega arith in grind (arith, nat_tests)

-- equal lists have equal last elements, and equal elements before them
same_ends : {A : Type 0} (xs ys : List A) (x y : A) → xs ++ x ∷ [] ≡ ys ++ y ∷ [] → (xs ≡ ys) × (x ≡ y)
same_ends [] [] x y same = (refl, cc same)
same_ends [] (b ∷ ys) x y same = absurd (omega (arith, ap (λ (l : List _). length l) same, length-append ys (y ∷ [])))
same_ends (a ∷ xs) [] x y same = absurd (omega (arith, ap (λ (l : List _). length l) same, length-append xs (x ∷ [])))
same_ends (a ∷ xs) (b ∷ ys) x y same =
    let head : a ≡ b = cc same in
    let tail : xs ++ x ∷ [] ≡ ys ++ y ∷ [] = cc same in
    let (rest, last) = same_ends xs ys x y tail in
    (λ i. head i ∷ rest i, last)

module _ {X : Type 0} (kind : RowKind X) where
  -- a record that cannot follow these rows
  pub refused_here : (text : List ℕ) (rows : List X) (last : Record) (fault : LoadFault) → kind.AreHeld rows
      → AreFirst text ((names ∷ map kind.fields rows) ++ last ∷ [])
      → (fault ≢ faults.Memory → IsUnread kind.fields kind.IsReadable last fault ⊎ IsUnheld kind rows last fault) → Refuses kind text fault
  refused_here text rows last fault held first refused = λ other _.
      inr (record { rows = rows; last = last; records = first; held = held; refused = refused other })

  -- one more row is held
  pub given_more : {R : Type 0} (remaining : R → Option (List ℕ)) (text : List ℕ) (rows : List X) (last : Record) (row : X) (reader : Reader R)
      → last ≡ kind.fields row → HasRead remaining text ((names ∷ map kind.fields rows) ++ last ∷ []) reader
      → HasRead remaining text (names ∷ map kind.fields (rows ++ row ∷ [])) reader
  given_more remaining text rows last row reader is has =
      let same : (names ∷ map kind.fields rows) ++ last ∷ [] ≡ names ∷ map kind.fields (rows ++ row ∷ []) =
      ap (λ (r : Record). names ∷ (map kind.fields rows ++ r ∷ [])) is ∙ ap (λ (rs : List Record). names ∷ rs) (sym (map-append kind.fields rows (row ∷ []))) in
      subst (λ (records : List Record). HasRead remaining text records reader) same has

  -- the same for a narrower set of texts
  pub reads_of : (IsText Known : List ℕ → Type 0) (Holds : List X → Type 0) (result : Result ℕ LoadFault)
      → ((text : List ℕ) → Known text → IsText text) → ReadsRows kind IsText Holds result → ReadsRows kind Known Holds result
  reads_of IsText Known Holds (Ok count) known (rows, holds, is_count, all) = (rows, holds, is_count, λ text is. all text (known text is))
  reads_of IsText Known Holds (Err fault) known refused = λ text is. refused text (known text is)

-- no record of rows is too long
module _ {X : Type 0} (kind : RowKind X) (is_kind : IsKind kind) (text : List ℕ) where
  among : (first : Record) (rows : List X) (few : List Record) (part : Record) (rest : List Record) → may_be_row first ≡ true
      → All kind.IsReadable rows → first ∷ map kind.fields rows ≡ few ++ part ∷ rest → may_be_row part ≡ true
  among first rows [] part rest may readable is = let same : first ≡ part = cc is in rw (← same) may
  among first [] (head ∷ few) part rest may readable is =
      absurd (omega (arith, ap (λ (l : List Record). length l) is, length-append few (part ∷ rest)))
  among first (row ∷ rows) (head ∷ few) part rest may readable is =
      let others : kind.fields row ∷ map kind.fields rows ≡ few ++ part ∷ rest = cc is in
      among (kind.fields row) rows few part rest (is_kind.may row (readable 0 row (omega arith))) (λ i x within. readable (suc i) x (omega arith)) others

  -- no text of such records is cut off
  pub never_cut : (rows : List X) (few : List Record) (last : Record) → kind.AreHeld rows → AreAll text (names ∷ map kind.fields rows)
      → AreFirst text (few ++ last ∷ []) → most_bytes < record_size last → ⊥
  never_cut rows few last held all first long =
      let (rest, is) = begin_all text (names ∷ map kind.fields rows) (few ++ last ∷ []) all first in
      short_enough last (among names rows few last rest refl (is_kind.readable rows held) (is ∙ append_assoc few (last ∷ []) rest)) long

  -- the rows of the front are those of the text
  pub rows_of_front : (rows : List X) → kind.AreHeld rows → AreAll (front_of text) (names ∷ map kind.fields rows) → AreAll text (names ∷ map kind.fields rows)
  rows_of_front rows held all = by (all_of_front text (names ∷ map kind.fields rows) all)
    where
      by : AreAll text (names ∷ map kind.fields rows) ⊎ EndsInPart text (names ∷ map kind.fields rows) → AreAll text (names ∷ map kind.fields rows)
      by (inl whole) = whole
      by (inr cut) = absurd (short_enough cut.part (among names rows cut.few cut.part [] refl (is_kind.readable rows held) cut.is) cut.long)

  -- if the front is refused, so is the text
  stops_of_front : (fault : LoadFault) → StopsAt kind (front_of text) fault → StopsAt kind text fault
  stops_of_front fault stops = by (first_of_front text (names ∷ (map kind.fields stops.rows ++ stops.last ∷ [])) stops.records)
    where
      refused_long : (f : LoadFault) (part last : Record) → most_bytes < record_size part → most_bytes < record_size last
          → IsUnread kind.fields kind.IsReadable part f ⊎ IsUnheld kind stops.rows part f
          → IsUnread kind.fields kind.IsReadable last f ⊎ IsUnheld kind stops.rows last f
      refused_long faults.Csv part last long longer (inl unread) = inl (too_long last longer)
      refused_long faults.Syntax part last long longer (inl unread) = absurd (short_enough part unread.0 long)
      refused_long f part last long longer (inl unread) = absurd unread
      refused_long f part last long longer (inr (row, readable, is, refused)) = absurd (short_enough part (rw is (is_kind.may row readable)) long)

      by : AreFirst text (names ∷ (map kind.fields stops.rows ++ stops.last ∷ []))
          ⊎ EndsInPart text (names ∷ (map kind.fields stops.rows ++ stops.last ∷ [])) → StopsAt kind text fault
      by (inl whole) = record { rows = stops.rows; last = stops.last; records = whole; held = stops.held; refused = stops.refused }
      by (inr cut) =
          let (before, part) = same_ends (names ∷ map kind.fields stops.rows) cut.few stops.last cut.part cut.is in
          let long : most_bytes < record_size stops.last = rw part cut.long in
          record {
            rows = stops.rows;
            last = cut.last;
            records = subst (λ (l : List Record). AreFirst text (l ++ cut.last ∷ [])) (sym before) cut.first;
            held = stops.held;
            refused = refused_long fault stops.last cut.last long cut.longer stops.refused;
          }

  names_of_front : HasNoNames (front_of text) → HasNoNames text
  names_of_front (inl none) = by (all_of_front text [] none)
    where
      by : AreAll text [] ⊎ EndsInPart text [] → HasNoNames text
      by (inl whole) = inl whole
      by (inr cut) = absurd (omega (arith, ap (λ (l : List Record). length l) cut.is, length-append cut.few (cut.part ∷ [])))
  names_of_front (inr (first, its, differs)) = by (first_of_front text (first ∷ []) its)
    where
      by : AreFirst text (first ∷ []) ⊎ EndsInPart text (first ∷ []) → HasNoNames text
      by (inl whole) = inr (first, whole, differs)
      by (inr cut) =
          let (before, _) = same_ends [] cut.few first cut.part cut.is in
          let first' = subst (λ (l : List Record). AreFirst text (l ++ cut.last ∷ [])) (sym before) cut.first in
          inr (cut.last, first', λ same. short_enough cut.last (rw same refl) cut.longer)

  pub refused_by_front : (fault : LoadFault) → Refuses kind (front_of text) fault → Refuses kind text fault
  refused_by_front fault refused = λ memory read. elim (refused memory read) [
    | inl (csv, none) ↦ inl (csv, names_of_front none)
    | inr stops ↦ inr (stops_of_front fault stops)
  ]
