-- The count after the accepted rows among the first rows of a batch.
use Rattle.std.proofs.Common.{◌≡◌, ◌+◌, ◌++◌, ◌∙◌, ℕ, Bool, true, false, cond, List, [], ◌∷◌, map, take, get_or, Some, sym, ap, refl, arith}
use Rattle.std.specs.Prelude.{slice_get, filter}
use Rattle.std.specs.List.{list_any}
use Rattle.std.specs.Ordering.{eq_by_cmp}
use Rattle.std.specs.FinMap as map_of
use Rattle.std.specs.FinSet as set
use Rattle.std.proofs.lemmas.Bool.{or_parts}
use Rattle.std.proofs.lemmas.List.{length-map, get_or-map, take-map}
use Rattle.std.proofs.lemmas.List.Elements.{filter-append}
use Rattle.std.proofs.lemmas.List.Sums.{fold-append}
use Rattle.std.proofs.lemmas.Option.{slice_get_within, get_or_from_slice_get}
use Rattle.zh_districts.specs.Misplaced.{misplaced}
use Rattle.zh_returns.specs.Keys.{key_cmp}
use Rattle.zh_returns.specs.declared.row.Row.{Row}
use Rattle.zh_returns.specs.Rows.{row_key, IsBatch}
use Rattle.zh_returns.proofs.KeyLemmas.{keys_total, fresh_from_distinct}
use Rattle.zh_returns.specs.declared.entry.Entry.{Entry}
use Rattle.zh_returns.specs.declared.judgement.Verdict.TheVariants.{Refused}
use Rattle.zh_returns.specs.declared.judgement.Reason.TheVariants as reasons
use Rattle.zh_returns.specs.Judgement.{judge_row, is_accept, unless_misplaced, too_many, against}
use Rattle.zh_returns.specs.Step.{entry_of, with_rows, accepted_rows}
use Rattle.zh_returns.specs.declared.entry.Origin.{Origin}
use Rattle.zh_returns.specs.Tally.{Tally, held}
use Rattle.zh_returns.proofs.VerdictLemmas.{rows_more}

abbrev pub upto : Origin → Tally → List Row → ℕ → Tally
upto origin tally rows i = record tally { entries = with_rows origin tally.entries (accepted_rows tally (take i rows)) }

-- a count with the entry of a row put in, in place of what is held
abbrev pub with_row : Origin → Tally → Row → Tally
with_row origin tally row = record tally { entries = map_of.insert tally.entries (row_key row) (entry_of origin row) }

-- under a key that no row has, the entry does not change, whichever rows are put in
put_or_not : (origin : Origin) (accepted : Bool) (entries : map_of.FinMap key_cmp Entry) (row : Row) (rows : List Row) (key : ℕ × ℕ) → eq_by_cmp key_cmp key (row_key row) ≡ false →
    ((other : map_of.FinMap key_cmp Entry) → map_of.get (with_rows origin other rows) key ≡ map_of.get other key) →
    map_of.get (with_rows origin entries (cond accepted (row ∷ rows) rows)) key ≡ map_of.get entries key
put_or_not origin true entries row rows key another rest =
    rest (map_of.insert entries (row_key row) (entry_of origin row))
    ∙ map_of.get-insert keys_total entries (row_key row) (entry_of origin row) key
    ∙ ap (λ b. cond b (Some (entry_of origin row)) (map_of.get entries key)) another
put_or_not origin false entries row rows key another rest = rest entries

pub other_rows : (origin : Origin) (p : Row → Bool) (entries : map_of.FinMap key_cmp Entry) (rows : List Row) (key : ℕ × ℕ) → list_any (eq_by_cmp key_cmp key) (map row_key rows) ≡ false →
    map_of.get (with_rows origin entries (filter p rows)) key ≡ map_of.get entries key
other_rows origin p entries [] key fresh = refl
other_rows origin p entries (row ∷ rows) key fresh =
    let parts = or_parts (eq_by_cmp key_cmp key (row_key row)) (list_any (eq_by_cmp key_cmp key) (map row_key rows)) fresh in
    put_or_not origin (p row) entries row (filter p rows) key parts.0 (λ other. other_rows origin p other rows key parts.1)

-- what is held under the key of a row is the same as before the batch, since the rows before it have other keys
pub held_still : (origin : Origin) (tally : Tally) (rows : List Row) (i : ℕ) (row : Row) → IsBatch rows → slice_get rows i ≡ Some row
    → held (upto origin tally rows i) row.municipality row.list ≡ held tally row.municipality row.list
held_still origin tally rows i row batch is =
    let within = slice_get_within rows i row is in
    let key : get_or (map row_key rows) i (row_key row) ≡ row_key row = get_or-map row_key rows i row (row_key row) within ∙ ap row_key (get_or_from_slice_get rows i row row is) in
    other_rows origin (λ r. is_accept (judge_row tally r)) tally.entries (take i rows) (row_key row) (
    ap (λ k. list_any (eq_by_cmp key_cmp k) (map row_key (take i rows))) (sym key)
    ∙ ap (list_any (eq_by_cmp key_cmp (get_or (map row_key rows) i (row_key row)))) (sym (take-map row_key i rows))
    ∙ fresh_from_distinct (map row_key rows) i (row_key row) batch.are_rows.keys (omega (arith, length-map rows row_key)))

-- so the verdict on the row is the same as before the batch
pub judged_still : (origin : Origin) (tally : Tally) (rows : List Row) (i : ℕ) (row : Row) → IsBatch rows → slice_get rows i ≡ Some row → judge_row (upto origin tally rows i) row ≡ judge_row tally row
judged_still origin tally rows i row batch is =
    ap (λ entry.
    unless_misplaced (misplaced tally.canton row.municipality row.list) (
    cond (too_many (Some row.votes)) (Refused reasons.Votes) (cond (set.contains tally.closed row.municipality) (Refused reasons.Closed) (against entry row.number (Some row.votes))))) (
    held_still origin tally rows i row batch is)

-- one more accepted row is one more entry
more_rows : (tally : Tally) (rows : List Row) (i : ℕ) (row : Row) → slice_get rows i ≡ Some row → accepted_rows tally (take (i + 1) rows)
    ≡ accepted_rows tally (take i rows) ++ cond (is_accept (judge_row tally row)) (row ∷ []) []
more_rows tally rows i row is =
    ap (accepted_rows tally) (rows_more rows i row is)
    ∙ filter-append (λ r. is_accept (judge_row tally r)) (take i rows) (row ∷ [])

with_more : (origin : Origin) (tally : Tally) (rows more : List Row) (i : ℕ) (row : Row) → slice_get rows i ≡ Some row → cond (is_accept (judge_row tally row)) (row ∷ []) [] ≡ more →
    upto origin tally rows (i + 1) ≡ record (upto origin tally rows i) { entries = with_rows origin (upto origin tally rows i).entries more }
with_more origin tally rows more i row is more_is =
    ap (λ entries. record tally { entries = entries }) (
    ap (with_rows origin tally.entries) (more_rows tally rows i row is ∙ ap (λ m. accepted_rows tally (take i rows) ++ m) more_is)
    ∙ fold-append (λ entries (r : Row). map_of.insert entries (row_key r) (entry_of origin r)) tally.entries (accepted_rows tally (take i rows)) more)

pub next_row : (origin : Origin) (tally : Tally) (rows : List Row) (i : ℕ) (row : Row) → slice_get rows i ≡ Some row
    → is_accept (judge_row tally row) ≡ true → upto origin tally rows (i + 1) ≡ with_row origin (upto origin tally rows i) row
next_row origin tally rows i row is accepted = with_more origin tally rows (row ∷ []) i row is (ap (λ b. cond b (row ∷ []) []) accepted)

-- a row that is not accepted changes nothing
pub passed_row : (origin : Origin) (tally : Tally) (rows : List Row) (i : ℕ) (row : Row) → slice_get rows i ≡ Some row
    → is_accept (judge_row tally row) ≡ false → upto origin tally rows (i + 1) ≡ upto origin tally rows i
passed_row origin tally rows i row is passed = with_more origin tally rows [] i row is (ap (λ b. cond b (row ∷ []) []) passed)
