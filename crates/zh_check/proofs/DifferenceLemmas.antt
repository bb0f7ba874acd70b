-- Two texts, line by line.
use Rattle.std.proofs.Common.{◌≡◌, ◌≢◌, ℕ, zero, suc, ◌+◌, ◌<◌, List, [], ◌∷◌, ◌++◌, length, take, refl, sym, ap, ◌∙◌, arith, length-drop, take-append-drop}
use Rattle.std.specs.List.{position_or_len}
use Rattle.zh_check.specs.Lines.{after_line, after_lines, ends_line, whole_line}

-- one more line
pub lines_more : (n : ℕ) (text : List ℕ) → after_lines (n + 1) text ≡ after_line (after_lines n text)
lines_more zero text = refl
lines_more (suc n) text =
    let next : suc n + 1 ≡ suc (n + 1) = omega arith in
    ap (λ m. after_lines m text) next ∙ lines_more n (after_line text)

-- skipping a line makes a text shorter, if it is not empty
pub shorter : (text : List ℕ) → text ≢ [] → length (after_line text) < length text
unfolding after_line
shorter [] some = absurd (some refl)
shorter (b ∷ text) some = omega (arith, length-drop (position_or_len ends_line (b ∷ text) + 1) (b ∷ text))

cut : (text : List ℕ) → whole_line text ++ after_line text ≡ text
unfolding after_line whole_line
cut text = take-append-drop (position_or_len ends_line text + 1) text

nothing_whole : (text : List ℕ) → whole_line text ≡ whole_line [] → text ≡ []
unfolding whole_line
nothing_whole [] e = refl
nothing_whole (b ∷ text) e =
    let next : position_or_len ends_line (b ∷ text) + 1 ≡ suc (position_or_len ends_line (b ∷ text)) = omega arith in
    let some : take (suc (position_or_len ends_line (b ∷ text))) (b ∷ text) ≡ [] = ap (λ n. take n (b ∷ text)) (sym next) ∙ e in
    absurd (cc)

-- texts are the same if their lines are, and both end there
pub same_texts : (n : ℕ) (text expected : List ℕ) → ((k : ℕ) → k < n → whole_line (after_lines k text) ≡ whole_line (after_lines k expected)) →
    after_lines n text ≡ [] → whole_line (after_lines n text) ≡ whole_line (after_lines n expected) → text ≡ expected
same_texts zero text expected same end last = end ∙ sym (nothing_whole expected (sym last ∙ ap whole_line end))
same_texts (suc n) text expected same end last =
    let first : whole_line text ≡ whole_line expected = same 0 (omega arith) in
    let rest : after_line text ≡ after_line expected
    = same_texts n (after_line text) (after_line expected) (λ k lt. same (suc k) (omega arith)) end last in
    sym (cut text) ∙ (ap (λ l. l ++ after_line text) first ∙ (ap (λ r. whole_line expected ++ r) rest ∙ cut expected))
