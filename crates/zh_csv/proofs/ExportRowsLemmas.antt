-- The rows of a count; the records of its export are those of these rows.
use Rattle.std.proofs.Common.{◌≡◌, ◌∙◌, ℕ, suc, List, [], ◌∷◌, ◌++◌, map, length, Option, Some, None, refl, sym, ap, subst, arith, All}
use Rattle.std.specs.List.{flat_map, range_with_len}
use Rattle.std.proofs.lemmas.List.{append-nil, map-append}
use Rattle.std.proofs.lemmas.Grind.{flat_map-append}
use Rattle.csv.specs.Machine.{next_record}
use Rattle.csv.specs.Reading.{Reached, default_config, strip_bom}
use Rattle.csv.specs.declared.parser.State.TheVariants as states
use Rattle.csv.proofs.RoundTrip.{read-write-many}
use Rattle.zh_returns.specs.declared.entry.Entry.{Entry}
use Rattle.zh_returns.specs.Tally.{Tally, held}
use Rattle.zh_csv.specs.Records.{Record, AreAll, names}
use Rattle.zh_csv.specs.Export.{line, entry_text, list_text, municipality_text, export_text}
use Rattle.zh_csv.proofs.ExportLemmas.{ArePlain, row_text-plain, record_plain, names_plain}
use Rattle.zh_csv.specs.declared.held_sums.HeldRow.{HeldRow}
use Rattle.zh_csv.specs.Rows.{held_fields, held_entry, IsHeldRow}

-- the row of an entry
abbrev pub entry_row : ℕ → ℕ → Entry → HeldRow
entry_row m l entry = record { municipality = m; list = l; number = entry.number; votes = entry.votes }

abbrev pub entry_rows : ℕ → ℕ → Option Entry → List HeldRow
entry_rows m l None = []
entry_rows m l (Some entry) = entry_row m l entry ∷ []

abbrev pub list_rows : Tally → ℕ → ℕ → List HeldRow
list_rows tally m l = entry_rows m l (held tally m l)

-- the rows of a municipality, list by list
abbrev pub municipality_rows : Tally → ℕ → List HeldRow
municipality_rows tally m = flat_map (list_rows tally m) (range_with_len 1 (length tally.canton.groups))

-- all rows of a count, by municipality
abbrev pub export_rows : Tally → List HeldRow
export_rows tally = flat_map (municipality_rows tally) (range_with_len 1 (length tally.canton.municipalities))

-- the lines of these rows
abbrev pub lines_of : List HeldRow → List ℕ
lines_of rows = flat_map line (map held_fields rows)

entry_lines : (m l : ℕ) (entry : Option Entry) → entry_text m l entry ≡ lines_of (entry_rows m l entry)
entry_lines m l None = refl
entry_lines m l (Some entry) = sym (append-nil (line (held_fields (entry_row m l entry))))

-- the texts of numbers, one after another, are the lines of their rows
all_lines : (text : ℕ → List ℕ) (rows : ℕ → List HeldRow) (ns : List ℕ) → ((n : ℕ) → text n ≡ lines_of (rows n)) → flat_map text ns ≡ lines_of (flat_map rows ns)
all_lines text rows [] each = refl
all_lines text rows (n ∷ ns) each =
    ap (λ (t : List ℕ). t ++ flat_map text ns) (each n)
    ∙ ap (λ (t : List ℕ). lines_of (rows n) ++ t) (all_lines text rows ns each)
    ∙ sym (flat_map-append line (map held_fields (rows n)) (map held_fields (flat_map rows ns)))
    ∙ ap (flat_map line) (sym (map-append held_fields (rows n) (flat_map rows ns)))

municipality_lines : (tally : Tally) (m : ℕ) → municipality_text tally m ≡ lines_of (municipality_rows tally m)
municipality_lines tally m = all_lines (list_text tally m) (list_rows tally m) (range_with_len 1 (length tally.canton.groups)) (λ l. entry_lines m l (held tally m l))

export_lines : (tally : Tally) → export_text tally ≡ line names ++ lines_of (export_rows tally)
export_lines tally =
    ap (λ (t : List ℕ). line names ++ t) (all_lines (municipality_text tally) (municipality_rows tally) (range_with_len 1 (length tally.canton.municipalities)) (municipality_lines tally))

-- a line reads back as its record
line_read : (fields : Record) (tail : List ℕ) → ArePlain fields → next_record default_config states.StartRecord [] [] (line fields ++ tail) ≡ Some (fields, states.StartRecord, tail)
line_read [] tail plain = let two = plain.0 in absurd (omega arith)
line_read (a ∷ []) tail plain = let two = plain.0 in absurd (omega arith)
line_read (a ∷ b ∷ fields) tail plain =
    ap (λ (t : List ℕ). next_record default_config states.StartRecord [] [] (t ++ tail)) (sym (row_text-plain (a ∷ b ∷ fields) plain)) ∙ read-write-many a b fields tail

row_plain : (row : HeldRow) → IsHeldRow row → ArePlain (held_fields row)
row_plain row is = record_plain row.municipality row.list (held_entry row) is.municipality is.list is.number.1 is.votes

rows_read : (rows : List HeldRow) → All IsHeldRow rows → Reached default_config states.StartRecord (lines_of rows) (map held_fields rows) states.StartRecord []
unfolding Reached
rows_read [] readable = (refl, refl)
rows_read (row ∷ rows) readable = (
  (held_fields row, states.StartRecord, lines_of rows),
  line_read (held_fields row) (lines_of rows) (row_plain row (readable 0 row (omega arith))),
  refl,
  rows_read rows (λ i x within. readable (suc i) x (omega arith)),
)

-- the text of the names and of these rows
names_and : (rows : List HeldRow) → All IsHeldRow rows → AreAll (line names ++ lines_of rows) (names ∷ map held_fields rows)
unfolding Reached strip_bom next_record
names_and rows readable = (
  states.StartRecord,
  [],
  ((names, states.StartRecord, lines_of rows), line_read names (lines_of rows) names_plain, refl, rows_read rows readable),
  refl,
)

pub export_records : (tally : Tally) → All IsHeldRow (export_rows tally) → AreAll (export_text tally) (names ∷ map held_fields (export_rows tally))
export_records tally readable = subst (λ (text : List ℕ). AreAll text (names ∷ map held_fields (export_rows tally))) (sym (export_lines tally)) (names_and (export_rows tally) readable)
