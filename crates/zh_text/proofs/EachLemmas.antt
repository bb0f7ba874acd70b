-- Lists built from one part for each number, extended by one number at a time.
use Rattle.std.proofs.Common.{◌≡◌, ◌+◌, append_assoc, ℕ, zero, suc, List, [], ◌∷◌, ◌++◌, refl, sym, ap, ◌∙◌, arith, add-zero}
use Rattle.std.specs.List.{flat_map, range_with_len}
use Rattle.std.proofs.lemmas.List.{flat_map_more}
use Rattle.zh_text.specs.Each.{each_to}

-- a range with one more number
pub range_more : (first n : ℕ) → range_with_len first (suc n) ≡ range_with_len first n ++ (first + n) ∷ []
range_more first zero = rw (add-zero first) refl
range_more first (suc n) =
    let same : first + 1 + n ≡ first + suc n = omega arith in
    ap (λ (l : List ℕ). first ∷ l) (range_more (first + 1) n ∙ ap (λ (k : ℕ). range_with_len (first + 1) n ++ k ∷ []) same)

-- the parts for the numbers so far, followed by the part for the next number
pub each_to_next : {A : Type 0} (f : ℕ → List A) (n : ℕ) → each_to n f ++ f (n + 1) ≡ each_to (n + 1) f
each_to_next f n =
    let next : n + 1 ≡ 1 + n = omega arith in
    let one : suc n ≡ n + 1 = omega arith in
    flat_map_more f [] (range_with_len 1 n) (n + 1) ∙ ap (flat_map f) (ap (λ (k : ℕ). range_with_len 1 n ++ k ∷ []) next ∙ sym (range_more 1 n) ∙ ap (range_with_len 1) one)

-- the same, appended to what a list contained before
pub gathered-next : {A : Type 0} (f : ℕ → List A) (before old new : List A) (n : ℕ) → old ≡ before ++ each_to n f → new ≡ old ++ f (n + 1) → new ≡ before ++ each_to (n + 1) f
gathered-next f before old new n h k = k ∙ ap (λ (l : List _). l ++ f (n + 1)) h ∙ append_assoc before (each_to n f) (f (n + 1)) ∙ ap (λ (l : List _). before ++ l) (each_to_next f n)
