-- Parts that are written one after another.
use Rattle.std.proofs.Common.{◌≡◌, ℕ, zero, suc, ◌+◌, ◌<◌, Bool, true, false, if◌then◌else◌}
use Rattle.std.proofs.Common.{List, [], ◌∷◌, ◌++◌, length, drop, refl, ap, sym, ◌∙◌, inl, inr, arith, append_assoc}
use Rattle.std.specs.Prelude.{◌==◌}
use Rattle.std.proofs.lemmas.Bool.{cases_lt, eq-eqb, ne_eqb}
use Rattle.std.proofs.lemmas.List.{drop_all}
use Rattle.zh_sheet_text.specs.Layout.{mark_before}
use Rattle.zh_sheet_text.specs.declared.line.SheetPart.{SheetPart}

-- a part of the remaining text and the byte after it were appended
pub marked_put : (page next new here whole rest all : List ℕ) (sign : ℕ) → page ++ whole ≡ all → whole ≡ here ++ sign ∷ rest → next ≡ page ++ here →
    new ≡ next ++ sign ∷ [] → new ++ rest ≡ all
marked_put page next new here whole rest all sign before parts put marked =
    ap (λ t. t ++ rest) (marked ∙ ap (λ t. t ++ sign ∷ []) put)
    ∙ (append_assoc (page ++ here) (sign ∷ []) rest
    ∙ (append_assoc page here (sign ∷ rest) ∙ (ap (λ t. page ++ t) (sym parts) ∙ before)))

-- a part is the last one if no part remains after it
some_left : (parts : List SheetPart) (n : ℕ) → n < length parts → mark_before (drop n parts) ≡ 32
some_left [] n lt = absurd (omega arith)
some_left (part ∷ parts) zero lt = refl
some_left (part ∷ parts) (suc n) lt = some_left parts n (omega (arith, lt))

pub last_of : (parts : List SheetPart) (k : ℕ) → k < length parts → (if k + 1 == length parts then 10 else 32) ≡ mark_before (drop (k + 1) parts)
last_of parts k lt = elim (cases_lt (k + 1) (length parts)) [
  | inl more ↦
      ap (λ b. if b then 10 else 32) (ne_eqb (k + 1) (length parts) (λ e. absurd (omega (arith, e, more)))) ∙ sym (some_left parts (k + 1) more)
  | inr past ↦
      ap (λ b. if b then 10 else 32) (eq-eqb (k + 1) (length parts) (omega (arith, lt, past))) ∙ sym (ap mark_before (drop_all (k + 1) parts past))
]
