-- What is held after an accepted batch.
use Rattle.std.proofs.Common.{◌≡◌, ◌∙◌, ◌||◌, ℕ, zero, suc, Bool, true, false, cond, List, [], ◌∷◌, map, Option, Some, sym, ap, subst, refl}
use Rattle.std.specs.Prelude.{slice_get, filter}
use Rattle.std.specs.List.{list_any, AllByRecursion, IsDistinct}
use Rattle.std.specs.Option.{IsSomeAnd}
use Rattle.std.specs.Ordering.{eq_by_cmp}
use Rattle.std.specs.FinMap as map_of
use Rattle.std.proofs.lemmas.Bool.{true≢false}
use Rattle.std.proofs.lemmas.Map.Keys.{IsDistinct-head, IsDistinct-tail}
use Rattle.std.proofs.lemmas.Option.{same_Some}
use Rattle.zh_returns.specs.Keys.{key_cmp}
use Rattle.zh_returns.specs.declared.row.Row.{Row}
use Rattle.zh_returns.specs.declared.command.Command.TheVariants as commands
use Rattle.zh_returns.specs.Rows.{row_key, has_key, IsBatch}
use Rattle.zh_returns.proofs.KeyLemmas.{keys_total, keys_alike, same_key}
use Rattle.zh_returns.specs.declared.entry.Entry.{Entry}
use Rattle.zh_returns.specs.declared.judgement.Verdict.{Verdict}
use Rattle.zh_returns.specs.declared.judgement.Verdict.TheVariants.{Accept, Same, Refused}
use Rattle.zh_returns.specs.Judgement.{judge, judge_row, is_accept, is_refusal}
use Rattle.zh_returns.specs.Step.{entry_of, with_rows, changed}
use Rattle.zh_returns.specs.declared.entry.Origin.{Origin}
use Rattle.zh_returns.specs.Origin.{origin_of}
use Rattle.zh_returns.specs.Tally.{Tally, held}
use Rattle.zh_returns.proofs.JudgementLemmas.{row_held, row_unrefused}
use Rattle.zh_returns.proofs.BatchLemmas.{other_rows}

-- the entries after a row that is put in or not
abbrev put_if : Origin → Bool → map_of.FinMap key_cmp Entry → Row → map_of.FinMap key_cmp Entry
put_if origin accepted entries row = cond accepted (map_of.insert entries (row_key row) (entry_of origin row)) entries

first_put : (origin : Origin) (accepted : Bool) (entries : map_of.FinMap key_cmp Entry) (row : Row) (rows : List Row)
    → with_rows origin entries (cond accepted (row ∷ rows) rows) ≡ with_rows origin (put_if origin accepted entries row) rows
first_put origin true entries row rows = refl
first_put origin false entries row rows = refl

here_put : (origin : Origin) (accepted : Bool) (entries : map_of.FinMap key_cmp Entry) (row : Row) → map_of.get (put_if origin accepted entries row)
    (row_key row) ≡ cond accepted (Some (entry_of origin row)) (map_of.get entries (row_key row))
here_put origin true entries row =
    map_of.get-insert keys_total entries (row_key row) (entry_of origin row) (row_key row)
    ∙ ap (λ b. cond b (Some (entry_of origin row)) (map_of.get entries (row_key row))) (same_key (row_key row))
here_put origin false entries row = refl

there_put : (origin : Origin) (accepted : Bool) (entries : map_of.FinMap key_cmp Entry) (row : Row) (key : ℕ × ℕ)
    → eq_by_cmp key_cmp key (row_key row) ≡ false → map_of.get (put_if origin accepted entries row) key ≡ map_of.get entries key
there_put origin true entries row key other =
    map_of.get-insert keys_total entries (row_key row) (entry_of origin row) key
    ∙ ap (λ b. cond b (Some (entry_of origin row)) (map_of.get entries key)) other
there_put origin false entries row key other = refl

-- keys that all differ from one key
none_alike : (key : ℕ × ℕ) (keys : List (ℕ × ℕ)) → AllByRecursion (λ other. eq_by_cmp key_cmp key other ≡ false) keys → list_any (eq_by_cmp key_cmp key) keys ≡ false
none_alike key [] all = refl
none_alike key (other ∷ keys) all = ap (λ b. b || list_any (eq_by_cmp key_cmp key) keys) all.0 ∙ none_alike key keys all.1

one_differs : (key : ℕ × ℕ) (rows : List Row) (i : ℕ) (row : Row) → AllByRecursion (λ other. eq_by_cmp key_cmp key other ≡ false)
    (map row_key rows) → slice_get rows i ≡ Some row → eq_by_cmp key_cmp key (row_key row) ≡ false
one_differs key [] i row all is = absurd (cc)
one_differs key (other ∷ rows) zero row all is = ap (λ r. eq_by_cmp key_cmp key (row_key r)) (sym (same_Some other row is)) ∙ all.0
one_differs key (other ∷ rows) (suc i) row all is = one_differs key rows i row all.1 is

-- if no two rows have the same key, a row that is put in is held, and under the key of any other row what is held does not
-- change
rows_put : (origin : Origin) (p : Row → Bool) (entries : map_of.FinMap key_cmp Entry) (rows : List Row) (i : ℕ) (row : Row) → IsDistinct (eq_by_cmp key_cmp) (map row_key rows) → slice_get rows i ≡ Some row →
    map_of.get (with_rows origin entries (filter p rows)) (row_key row) ≡ cond (p row) (Some (entry_of origin row)) (map_of.get entries (row_key row))
rows_put origin p entries [] i row distinct is = absurd (cc)
rows_put origin p entries (first ∷ rows) zero row distinct is =
    let same = sym (same_Some first row is) in
    ap (λ r. map_of.get (with_rows origin entries (filter p (first ∷ rows))) (row_key r)) same
    ∙ ap (λ m. map_of.get m (row_key first)) (first_put origin (p first) entries first (filter p rows))
    ∙ other_rows origin p (put_if origin (p first) entries first) rows (row_key first)
    (none_alike (row_key first) (map row_key rows) (IsDistinct-head (eq_by_cmp key_cmp) (row_key first) (map row_key rows) distinct))
    ∙ here_put origin (p first) entries first
    ∙ sym (ap (λ r. cond (p r) (Some (entry_of origin r)) (map_of.get entries (row_key r))) same)
rows_put origin p entries (first ∷ rows) (suc i) row distinct is =
    ap (λ m. map_of.get m (row_key row)) (first_put origin (p first) entries first (filter p rows))
    ∙ rows_put origin p (put_if origin (p first) entries first) rows i row (IsDistinct-tail (eq_by_cmp key_cmp) (row_key first) (map row_key rows) distinct) is
    ∙ ap (cond (p row) (Some (entry_of origin row))) (
    there_put origin (p first) entries first (row_key row) (keys_alike.symm (row_key row) (row_key first) ∙ one_differs (row_key first) rows i
    row (IsDistinct-head (eq_by_cmp key_cmp) (row_key first) (map row_key rows) distinct) is))

-- what is held for a row after the batch follows from the verdict on the row
judged_held : (tally : Tally) (desk : ℕ) (rows : List Row) (i : ℕ) (row : Row) (verdict : Verdict) → IsBatch rows → slice_get rows i ≡ Some row → judge_row tally row ≡ verdict →
    held (changed tally (commands.Batch desk rows)) row.municipality row.list ≡ cond (is_accept verdict) (Some (entry_of (origin_of (commands.Batch desk rows)) row)) (held tally row.municipality row.list)
judged_held tally desk rows i row verdict batch is judged =
    rows_put (origin_of (commands.Batch desk rows)) (λ r. is_accept (judge_row tally r)) tally.entries rows i row batch.are_rows.keys is
    ∙ ap (λ v. cond (is_accept v) (Some (entry_of (origin_of (commands.Batch desk rows)) row)) (held tally row.municipality row.list)) judged

pub accepted_held : (tally : Tally) (desk : ℕ) (rows : List Row) (i : ℕ) (row : Row) → IsBatch rows → slice_get rows i ≡ Some row → judge_row tally row ≡ Accept →
    held (changed tally (commands.Batch desk rows)) row.municipality row.list ≡ Some (entry_of (origin_of (commands.Batch desk rows)) row)
accepted_held tally desk rows i row batch is judged = judged_held tally desk rows i row Accept batch is judged

pub same_held : (tally : Tally) (desk : ℕ) (rows : List Row) (i : ℕ) (row : Row) → IsBatch rows → slice_get rows i ≡ Some row → judge_row tally row ≡ Same →
    held (changed tally (commands.Batch desk rows)) row.municipality row.list ≡ held tally row.municipality row.list
same_held tally desk rows i row batch is judged = judged_held tally desk rows i row Same batch is judged

-- what is held has the number and the votes of a row
abbrev HasContent : Row → Option Entry → Type 0
HasContent row found = IsSomeAnd found (λ entry. (entry.number ≡ row.number) × (entry.votes ≡ Some row.votes))

by_verdict : (tally : Tally) (desk : ℕ) (rows : List Row) (i : ℕ) (row : Row) (verdict : Verdict) → IsBatch rows → slice_get rows i
    ≡ Some row → judge_row tally row ≡ verdict → is_refusal verdict ≡ false →
    HasContent row (held (changed tally (commands.Batch desk rows)) row.municipality row.list)
by_verdict tally desk rows i row Accept batch is judged fine = subst (HasContent row) (sym (accepted_held tally desk rows i row batch is judged)) (refl, refl)
by_verdict tally desk rows i row Same batch is judged fine =
    let same = row_held tally row judged in
    subst (HasContent row) (sym (same_held tally desk rows i row batch is judged ∙ same.is)) (same.number_is, same.votes_are)
by_verdict tally desk rows i row (Refused reason) batch is judged fine = absurd (true≢false fine)

-- each row of an accepted batch is held after it
pub rows_held : (tally : Tally) (desk : ℕ) (rows : List Row) (i : ℕ) (row : Row) → IsBatch rows → judge tally (commands.Batch desk rows) ≡ Accept → slice_get rows i ≡ Some row →
    HasContent row (held (changed tally (commands.Batch desk rows)) row.municipality row.list)
rows_held tally desk rows i row batch accepted is = by_verdict tally desk rows i row (judge_row tally row) batch is refl (row_unrefused tally rows i row accepted is)

-- under a key that no row has, what is held does not change
pub others_held : (tally : Tally) (desk : ℕ) (rows : List Row) (municipality list : ℕ) → has_key rows (municipality, list) ≡ false
    → held (changed tally (commands.Batch desk rows)) municipality list ≡ held tally municipality list
others_held tally desk rows municipality list fresh = other_rows (origin_of (commands.Batch desk rows)) (λ r. is_accept (judge_row tally r)) tally.entries rows (municipality, list) fresh
