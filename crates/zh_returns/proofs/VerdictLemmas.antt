-- The verdict on a batch.
use Rattle.std.proofs.Common.{◌≡◌, ◌+◌, ◌∙◌, ◌||◌, ◌++◌, ℕ, Bool, true, false, cond, List, [], ◌∷◌, map, take, drop, Some, None, sym, ap, refl}
use Rattle.std.specs.Prelude.{All, slice_get, unwrap_or}
use Rattle.std.specs.List.{find, list_any}
use Rattle.std.specs.Option.{option_or}
use Rattle.std.proofs.Math.Bool.{or_comm}
use Rattle.std.proofs.lemmas.Bool.{true≢false}
use Rattle.std.proofs.lemmas.List.{take_more, map-append, take-append-drop, drop_more}
use Rattle.std.proofs.lemmas.List.Elements.{All-nil, All-cons}
use Rattle.std.proofs.lemmas.List.Folds.{find-append, list_any-append}
use Rattle.std.proofs.lemmas.Option.{slice_get_within, get_or_from_slice_get}
use Rattle.zh_returns.specs.declared.row.Row.{Row}
use Rattle.zh_returns.specs.declared.judgement.Verdict.{Verdict}
use Rattle.zh_returns.specs.declared.judgement.Verdict.TheVariants.{Accept, Same, Refused}
use Rattle.zh_returns.specs.Judgement.{is_refusal, is_accept, of_all}

-- the rows up to the one that was read, with this one
pub rows_more : (rows : List Row) (i : ℕ) (row : Row) → slice_get rows i ≡ Some row → take (i + 1) rows ≡ take i rows ++ (row ∷ [])
rows_more rows i row is =
    take_more rows i row (slice_get_within rows i row is) ∙ ap (λ (r : Row). take i rows ++ (r ∷ [])) (get_or_from_slice_get rows i row row is)

-- the verdicts on these rows
verdicts_more : (f : Row → Verdict) (rows : List Row) (i : ℕ) (row : Row) (verdict : Verdict) → slice_get rows i ≡ Some row → verdict ≡ f row →
    map f (take (i + 1) rows) ≡ map f (take i rows) ++ (verdict ∷ [])
verdicts_more f rows i row verdict is judged =
    ap (map f) (rows_more rows i row is) ∙ map-append f (take i rows) (row ∷ []) ∙ ap (λ (v : Verdict). map f (take i rows) ++ (v ∷ [])) (sym judged)

-- there is no refusal among them, if there was none before and this is none
pub unrefused_more : (f : Row → Verdict) (rows : List Row) (i : ℕ) (row : Row) (verdict : Verdict) → slice_get rows i ≡ Some row → verdict ≡ f row →
    is_refusal verdict ≡ false → find is_refusal (map f (take i rows)) ≡ None → find is_refusal (map f (take (i + 1) rows)) ≡ None
unrefused_more f rows i row verdict is judged fine none =
    ap (find is_refusal) (verdicts_more f rows i row verdict is judged)
    ∙ find-append is_refusal (map f (take i rows)) (verdict ∷ [])
    ∙ ap (λ found. option_or found (find is_refusal (verdict ∷ []))) none
    ∙ ap (λ b. cond b (Some verdict) None) fine

-- whether one of them is accepted
pub accepted_more : (f : Row → Verdict) (rows : List Row) (i : ℕ) (row : Row) (verdict : Verdict) → slice_get rows i ≡ Some row → verdict ≡ f row →
    list_any is_accept (map f (take (i + 1) rows)) ≡ (list_any is_accept (map f (take i rows)) || is_accept verdict)
accepted_more f rows i row verdict is judged =
    ap (list_any is_accept) (verdicts_more f rows i row verdict is judged)
    ∙ list_any-append is_accept (map f (take i rows)) (verdict ∷ [])
    ∙ ap (λ b. list_any is_accept (map f (take i rows)) || b) (or_comm (is_accept verdict) false)

-- the first refusal decides
pub first_refusal : (f : Row → Verdict) (rows : List Row) (i : ℕ) (row : Row) (verdict : Verdict) → slice_get rows i ≡ Some row → verdict ≡ f row →
    is_refusal verdict ≡ true → find is_refusal (map f (take i rows)) ≡ None → verdict ≡ of_all (map f rows)
first_refusal f rows i row verdict is judged refused none =
    let within = slice_get_within rows i row is in
    let rest = drop (i + 1) rows in
    let split : rows ≡ take i rows ++ (row ∷ rest) =
    sym (take-append-drop i rows) ∙ ap (λ back. take i rows ++ back) (drop_more rows i row within ∙ ap (λ (r : Row). r ∷ rest) (get_or_from_slice_get rows i row row is)) in
    let found : find is_refusal (map f rows) ≡ Some verdict =
    ap (λ all. find is_refusal (map f all)) split
    ∙ ap (find is_refusal) (map-append f (take i rows) (row ∷ rest))
    ∙ find-append is_refusal (map f (take i rows)) (map f (row ∷ rest))
    ∙ ap (λ o. option_or o (find is_refusal (map f (row ∷ rest)))) none
    ∙ ap (λ v. cond (is_refusal v) (Some v) (find is_refusal (map f rest))) (sym judged)
    ∙ ap (λ b. cond b (Some verdict) (find is_refusal (map f rest))) refused in
    sym (ap (λ o. unwrap_or o (cond (list_any is_accept (map f rows)) Accept Same)) found)

-- what is found is a refusal
found_refuses : (verdicts : List Verdict) (other : Verdict) → is_refusal other ≡ false → is_refusal (unwrap_or (find is_refusal verdicts) other) ≡ false → All (λ v. is_refusal v ≡ false) verdicts
found_refuses [] other fine is = All-nil (λ v. is_refusal v ≡ false)
found_refuses (Accept ∷ verdicts) other fine is = All-cons (λ v. is_refusal v ≡ false) Accept verdicts refl (found_refuses verdicts other fine is)
found_refuses (Same ∷ verdicts) other fine is = All-cons (λ v. is_refusal v ≡ false) Same verdicts refl (found_refuses verdicts other fine is)
found_refuses (Refused reason ∷ verdicts) other fine is = absurd (true≢false is)

default_passes : (b : Bool) → is_refusal (cond b Accept Same) ≡ false
default_passes true = refl
default_passes false = refl

-- if a batch is accepted, no row is refused
pub none_refused : (verdicts : List Verdict) → of_all verdicts ≡ Accept → All (λ v. is_refusal v ≡ false) verdicts
none_refused verdicts accepted = found_refuses verdicts (cond (list_any is_accept verdicts) Accept Same) (default_passes (list_any is_accept verdicts)) (ap is_refusal accepted)
