-- The rows of a batch by their keys.
use Rattle.std.proofs.Common.{◌≡◌, ◌<◌, ◌≤◌, ℕ, nat_le, nat_lt, if◌then◌else◌, suc, ◌==◌, ◌&&◌, Bool, true, false, cond, ◌||◌, List, [], ◌∷◌, ◌++◌, map, length, refl, sym, ap, ◌∙◌, subst, arith, Option, Some, None, is_some, Result, Ok, Err, OnOk, get_or, length-append}
use Rattle.std.proofs.Math.Seq.{take-append_seam}
use Rattle.std.specs.List.{list_any, IsDistinct}
use Rattle.std.specs.Map.{lookup, values_of}
use Rattle.std.specs.Ordering.{eq_by_cmp}
use Rattle.std.specs.Result.{is_err}
use Rattle.std.proofs.lemmas.Grind.{common_steps}
use Rattle.std.proofs.lemmas.Bool.Decides.{nat_tests}
use Rattle.std.proofs.lemmas.List.{map-append, map_push, length_push}
use Rattle.std.proofs.lemmas.List.Elements.{All-append, All-push}
use Rattle.std.proofs.lemmas.Map.Keys.{IsDistinct-push}
use Rattle.zh_districts.specs.declared.setup.Misplaced.{Misplaced}
use Rattle.zh_returns.specs.Limits.{most_votes}
use Rattle.zh_returns.specs.declared.judgement.Reason.TheVariants as reasons
use Rattle.zh_returns.specs.declared.row.Row.{Row}
use Rattle.zh_returns.specs.Rows.{row_key, has_key, AreRows, IsSpeakableRow}
use Rattle.zh_returns.specs.Keys.{key_cmp}
use Rattle.zh_returns.proofs.KeyLemmas.{key_test, keys_alike, fresh_from_distinct}
use Rattle.zh_returns.specs.Batches.{AreKeyed}
use Rattle.zh_returns.specs.RowFaults.{fault_in, unfit_at}

-- whether this is the key
abbrev pub is_key : ℕ → ℕ → ℕ × ℕ → Bool
is_key municipality list key = (municipality == key.0) && (list == key.1)

found_first : (m l : ℕ) (e : (ℕ × ℕ) × Row) (rest : Option Row) (others : Bool) → e.0 ≡ row_key e.1 → is_some rest ≡ others
    → is_some (cond (is_key m l e.0) (Some e.1) rest) ≡ eq_by_cmp key_cmp (m, l) (row_key e.1) || others
found_first m l e rest others keyed same = by (is_key m l e.0) (ap (is_key m l) keyed ∙ sym (key_test m l e.1.municipality e.1.list))
  where
    by : (b : Bool) → b ≡ eq_by_cmp key_cmp (m, l) (row_key e.1) → is_some (cond b (Some e.1) rest) ≡ eq_by_cmp key_cmp (m, l) (row_key e.1) || others
    by true is = ap (λ c. c || others) is
    by false is = same ∙ ap (λ c. c || others) is

-- the map has an entry under a key if and only if there is a row with the key
pub found : (m l : ℕ) (es : List ((ℕ × ℕ) × Row)) → AreKeyed es → is_some (lookup (is_key m l) es) ≡ has_key (values_of es) (m, l)
found m l [] keyed = refl
found m l (e ∷ es) keyed = found_first m l e (lookup (is_key m l) es) (has_key (values_of es) (m, l)) (keyed 0 e (omega arith)) (found m l es (λ k d within. keyed (suc k) d (omega arith)))

-- if there is no row with the key, the map has no entry
pub not_found : (m l : ℕ) (es : List ((ℕ × ℕ) × Row)) → AreKeyed es → has_key (values_of es) (m, l) ≡ false → lookup (is_key m l) es ≡ None
not_found m l es keyed none = by (lookup (is_key m l) es) (found m l es keyed ∙ none)
  where
    by : (o : Option Row) → is_some o ≡ false → o ≡ None
    by None h = refl
    by (Some x) h = cc

pub keyed_more : (es : List ((ℕ × ℕ) × Row)) (row : Row) → AreKeyed es → AreKeyed (es ++ (row_key row, row) ∷ [])
keyed_more es row keyed = grind (arith, common_steps, All-append)

-- a batch that takes one more row has fewer than 1,000 rows, and none with its key
pub taken_by : (rows : List Row) (row : Row) → fault_in rows row ≡ None → (has_key rows (row_key row) ≡ false) × (nat_le 1000 (length rows) ≡ false)
taken_by rows row none = by (has_key rows (row_key row)) (nat_le 1000 (length rows)) refl refl
  where
    by : (b c : Bool) → has_key rows (row_key row) ≡ b → nat_le 1000 (length rows) ≡ c → (has_key rows (row_key row) ≡ false) × (nat_le 1000 (length rows) ≡ false)
    by true c e f = cc (rw e at none)
    by false true e f = cc (rw (e, f) at none)
    by false false e f = (e, f)

-- the list of a row that a batch may contain stands there, and its votes are no more than a return may have
pub fit_within : (place : Option Misplaced) (votes : ℕ) → unfit_at place votes ≡ None → (place ≡ None) × (votes ≤ most_votes)
fit_within (Some place) votes none = absurd (cc none)
fit_within None votes none = (refl, by (nat_lt most_votes votes) refl none)
  where
    by : (b : Bool) → nat_lt most_votes votes ≡ b → (if b then Some reasons.Votes else None) ≡ None → votes ≤ most_votes
    by true more wrong = absurd (cc wrong)
    by false few _ = grind (arith, nat_tests)

-- a row with a new key is appended
pub batch_more : (rows : List Row) (row : Row) → AreRows rows → length rows < 1000 → has_key rows (row_key row) ≡ false → IsSpeakableRow row → AreRows (rows ++ row ∷ [])
batch_more rows row are few fresh speakable = record {
  most = omega (arith, length_push rows row);
  speakable = All-push IsSpeakableRow rows row are.speakable speakable;
  keys = subst (IsDistinct (eq_by_cmp key_cmp)) (sym (map_push row_key rows row)) (IsDistinct-push keys_alike (map row_key rows) (row_key row) are.keys fresh);
}

-- what holds if a result is not an error
pub on_no_error : {A B : Type 0} (result : Result A B) (P : Type 0) → is_err result ≡ false → OnOk result P → P
on_no_error (Ok x) P h on = on
on_no_error (Err e) P h on = cc

-- the element at the seam of two lists
get_or-seam : {X : Type 0} (xs : List X) (y : X) (ys : List X) (d : X) → get_or (xs ++ y ∷ ys) (length xs) d ≡ y
get_or-seam [] y ys d = refl
get_or-seam (x ∷ xs) y ys d = get_or-seam xs y ys d

-- if no two rows have the same key, none before a row has its key
pub fresh_next : (done rest : List Row) (row : Row) → AreRows (done ++ row ∷ rest) → has_key done (row_key row) ≡ false
fresh_next done rest row are =
    let keys : map row_key (done ++ row ∷ rest) ≡ map row_key done ++ row_key row ∷ map row_key rest = map-append row_key done (row ∷ rest) in
    let distinct = subst (IsDistinct (eq_by_cmp key_cmp)) keys are.keys in
    let fresh = fresh_from_distinct (map row_key done ++ row_key row ∷ map row_key rest) (length (map row_key done)) (0, 0) distinct
    (omega (arith, length-append (map row_key done) (row_key row ∷ map row_key rest))) in
    subst (λ (key : ℕ × ℕ). list_any (eq_by_cmp key_cmp key) (map row_key done) ≡ false) (get_or-seam (map row_key done) (row_key row) (map row_key rest) (0, 0))
    (subst (λ (before : List (ℕ × ℕ)). list_any (eq_by_cmp key_cmp (get_or (map row_key done ++ row_key row ∷ map row_key rest) (length (map row_key done)) (0, 0))) before ≡ false)
    (take-append_seam (map row_key done) (row_key row ∷ map row_key rest)) fresh)
