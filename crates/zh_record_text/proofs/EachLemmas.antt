-- The texts of numbers, or of elements, one after another.
use Rattle.std.proofs.Common.{◌≡◌, ◌<◌, ◌+◌, length, get_or, take, ℕ, suc, List, [], ◌∷◌, ◌++◌, Option, sym, ap, ◌∙◌, arith, subst}
use Rattle.std.specs.List.{flat_map, range_with_len}
use Rattle.std.proofs.lemmas.List.{take_more}
use Rattle.csv.specs.declared.writer.Writer.{Writer}
use Rattle.zh_text.specs.Each.{each_to}
use Rattle.zh_record_text.specs.Records.{PutsText}
use Rattle.zh_record_text.proofs.RecordLemmas.{Puts-push}
use Rattle.zh_text.proofs.CallerLemmas.{range_more}

-- what was written for the numbers so far, then for the next one
pub Puts-next : {W : Type 0} (contents : W → Option (List ℕ)) (f : ℕ → List ℕ) (n : ℕ) (a b c : Writer W) → PutsText contents (each_to n f) a b → PutsText contents (f (n + 1)) b c → PutsText contents (each_to (n + 1) f) a c
Puts-next contents f n a b c first second =
    let next : n + 1 ≡ 1 + n = omega arith in
    let one : suc n ≡ n + 1 = omega arith in
    let all : range_with_len 1 n ++ (n + 1) ∷ [] ≡ range_with_len 1 (n + 1) =
    ap (λ (k : ℕ). range_with_len 1 n ++ k ∷ []) next ∙ sym (range_more 1 n) ∙ ap (range_with_len 1) one in
    subst (λ (ns : List ℕ). PutsText contents (flat_map f ns) a c) all (Puts-push contents f (range_with_len 1 n) (n + 1) a b c first second)

-- what was written for the elements so far, then for the next one
pub Puts-element : {W X : Type 0} (contents : W → Option (List ℕ)) (f : X → List ℕ) (xs : List X) (i : ℕ) (x : X) (a b c : Writer W) → i < length xs → PutsText contents (flat_map f (take i xs)) a b → PutsText contents (f (get_or xs i x)) b c → PutsText contents (flat_map f (take (i + 1) xs)) a c
Puts-element contents f xs i x a b c within first second =
    subst (λ (l : List _). PutsText contents (flat_map f l) a c) (sym (take_more xs i x within)) (Puts-push contents f (take i xs) (get_or xs i x) a b c first second)
