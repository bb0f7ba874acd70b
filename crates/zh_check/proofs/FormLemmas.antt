-- The form of the lines and of the parts of a line so far, and of what remains.
use Rattle.std.proofs.Common.{◌≡◌, ℕ, zero, suc, ◌+◌, ◌<◌, if◌then◌else◌, inl, inr, refl, arith}
use Rattle.std.proofs.Common.{List, [], ◌∷◌, ◌++◌, drop, get_or, length, sym, ap, ◌∙◌, append_assoc}
use Rattle.std.specs.Prelude.{◌==◌}
use Rattle.std.proofs.lemmas.Bool.{cases_lt, eq-eqb, ne_eqb}
use Rattle.std.proofs.lemmas.List.{at_drop_more, drop_all}
use Rattle.zh_districts.specs.Canton.{Canton}
use Rattle.zh_sheet_text.specs.Layout.{SheetLine, mark_before}
use Rattle.zh_sheet_text.specs.declared.line.SheetPart.{SheetPart}
use Rattle.zh_check.specs.Lines.{after_if, after_word, leading_word}
use Rattle.zh_check.specs.Form.{in_forms, line_form, part_form, parts_form}

-- one more line of a text
pub line_put : (canton : Canton) (lines : List SheetLine) (k : ℕ) (d : SheetLine) (text new rest after all : List ℕ) → k < length lines →
    text ++ in_forms canton (drop k lines) rest ≡ all → new ≡ text ++ line_form canton (get_or lines k d) rest →
    after ≡ after_if (get_or lines k d).is_there rest → new ++ in_forms canton (drop (k + 1) lines) after ≡ all
line_put canton lines k d text new rest after all lt before put passed =
    let line : SheetLine = get_or lines k d in
    let more : List SheetLine = drop (k + 1) lines in
    ap (λ t. t ++ in_forms canton more after) put
    ∙ (append_assoc text (line_form canton line rest) (in_forms canton more after)
    ∙ (ap (λ r. text ++ (line_form canton line rest ++ in_forms canton more r)) passed
    ∙ (sym (at_drop_more (λ ls. text ++ in_forms canton ls rest) lines k d lt) ∙ before)))

-- a part is the last one if no part remains after it
some_left : (parts : List SheetPart) (n : ℕ) → n < length parts → mark_before (drop n parts) ≡ 32
some_left [] n lt = absurd (omega arith)
some_left (part ∷ parts) zero lt = refl
some_left (part ∷ parts) (suc n) lt = some_left parts n (omega (arith, lt))

last_of : (parts : List SheetPart) (k : ℕ) → k < length parts → (if k + 1 == length parts then 10 else 32) ≡ mark_before (drop (k + 1) parts)
last_of parts k lt = elim (cases_lt (k + 1) (length parts)) [
  | inl more ↦
      ap (λ b. if b then 10 else 32) (ne_eqb (k + 1) (length parts) (λ e. absurd (omega (arith, e, more)))) ∙ sym (some_left parts (k + 1) more)
  | inr past ↦
      ap (λ b. if b then 10 else 32) (eq-eqb (k + 1) (length parts) (omega (arith, lt, past))) ∙ sym (ap mark_before (drop_all (k + 1) parts past))
]

-- one more part of a line
pub part_put : (canton : Canton) (parts : List SheetPart) (k : ℕ) (d : SheetPart) (text put new word mark rest after all : List ℕ) → k < length parts →
    text ++ parts_form canton (drop k parts) rest ≡ all → word ≡ leading_word rest → after ≡ after_word rest →
    put ≡ text ++ part_form canton (get_or parts k d) word → mark ≡ (if k + 1 == length parts then 10 else 32) ∷ [] → new ≡ put ++ mark →
    new ++ parts_form canton (drop (k + 1) parts) after ≡ all
part_put canton parts k d text put new word mark rest after all lt before first passed one sign marked =
    let more : List SheetPart = drop (k + 1) parts in
    let form : List ℕ → List ℕ = part_form canton (get_or parts k d) in
    let left : List ℕ = parts_form canton more (after_word rest) in
    let is : new ≡ (text ++ form (leading_word rest)) ++ mark_before more ∷ []
    = marked ∙ (ap (λ m. put ++ m) (sign ∙ ap (λ m. m ∷ []) (last_of parts k lt)) ∙ ap (λ t. t ++ mark_before more ∷ []) (one ∙ ap (λ w. text ++ form w) first)) in
    ap (λ r. new ++ parts_form canton more r) passed
    ∙ (ap (λ t. t ++ left) is
    ∙ (append_assoc (text ++ form (leading_word rest)) (mark_before more ∷ []) left
    ∙ (append_assoc text (form (leading_word rest)) (mark_before more ∷ left)
    ∙ (sym (at_drop_more (λ ps. text ++ parts_form canton ps rest) parts k d lt) ∙ before))))
