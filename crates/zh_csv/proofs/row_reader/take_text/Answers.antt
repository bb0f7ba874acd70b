use Rattle.std.proofs.Common.{rules, ◌≡◌, ◌∷◌, [], true, false, inl, inr, refl, subst, Some, option_map}
use Rattle.csv.specs.Records.{fields_of}
use Rattle.zh_csv.specs.Front.{front_of}
use Rattle.zh_csv.specs.Fronts.{front_left}
use Rattle.zh_csv.specs.Records.{Record, HasRead, names}
use Rattle.zh_csv.proofs.ReadingLemmas.{reads_of}
use Rattle.zh_csv.proofs.RecordsLemmas.{are_first}
use Rattle.zh_csv.proofs.row_reader.take_text.Goals as goal
use Rattle.zh_csv.proofs.row_reader.take_text.Goals.{then-not-branch-via-then-not-branch, then-not-branch-via-else-not-branch+then-not-is_names}

pub returns-then-not-branch : goal.returns-then-not-branch
returns-then-not-branch g c canton holds text known =
    let begun = c.reader_of-reader.ensures text known in
    elim c.then-not-branch.branch [
      | then-not-branch-via-then-not-branch w ↦
          let gone : c.in_ok-next_record.field-0 ≡ false = search rules in
          let all = rw (c.in_ok-next_record.was, gone) at (c.next_record.ensures text [] begun) in
          λ memory read. inl (refl, inl all)
      | then-not-branch-via-else-not-branch+then-not-is_names w ↦
          let found : c.in_ok-next_record.field-0 ≡ true = search rules in
          let next = rw (c.in_ok-next_record.was, found) at (c.next_record.ensures text [] begun) in
          λ memory read. inl (refl, inr (fields_of c.next_record.new.csv_record, are_first (front_left g.R.Read.remaining) text _ c.next_record.new.reader next, λ same. search rules))
    ]

pub returns : goal.returns
returns g c canton holds =
    let found : c.in_ok-next_record.field-0 ≡ true = search rules in
    let same : fields_of c.next_record.new.csv_record ≡ names = search rules in
    let kind = g.T.Takes.kind canton in
    reads_of kind (λ text. HasRead (front_left g.R.Read.remaining) text (names ∷ []) c.next_record.new.reader)
    (λ text. option_map front_of (g.R.Read.remaining c.args.text) ≡ Some text) _ c.take_rows.result
    (λ text known.
    let next = rw (c.in_ok-next_record.was, found) at (c.next_record.ensures text [] (c.reader_of-reader.ensures text known)) in
    subst (λ (r : Record). HasRead (front_left g.R.Read.remaining) text (r ∷ []) c.next_record.new.reader) same next)
    (c.take_rows.ensures canton holds)
