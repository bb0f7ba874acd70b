-- Prefixes of texts that are written.
use Rattle.std.proofs.Common.{◌≡◌, ◌<◌, ◌+◌, ℕ, List, ◌++◌, length, take, Option, sym, subst, arith}
use Rattle.std.proofs.Math.Seq.{take-append-add}
use Rattle.std.proofs.lemmas.List.{length-append, take-append-le, take_all}
use Rattle.std.specs.Io.KnownBytes.{Appends}
use Rattle.zh_record_text.proofs.CallerLemmas.{Appends-join, Appends-none}
use Rattle.zh_office.specs.Judged.{BreaksOffLine, WritesUpTo}
use Rattle.zh_office.specs.declared.judgement.JudgementFault.{JudgementFault}

-- the empty text is a prefix of any text
pub none_written : (left : ℕ) (a : Option (List ℕ)) (xs : List ℕ) → left ≡ 0 → WritesUpTo left a a xs
none_written left a xs none = (0, omega (arith, none), Appends-none a)

-- a text is a prefix of itself
pub all_written : (left : ℕ) (a b : Option (List ℕ)) (xs : List ℕ) → left ≡ 0 → Appends a b xs → WritesUpTo left a b xs
all_written left a b xs none all = (length xs, omega (arith, none), subst (Appends a b) (sym (take_all (length xs) xs (omega arith))) all)

-- a writer that failed has not written the whole text
pub put_broke : (a b : Option (List ℕ)) (xs ys : List ℕ) → xs ≡ ys → (n : ℕ) × (n < length xs) × Appends a b (take n xs) → WritesUpTo 1 a b ys
put_broke a b xs ys is (n, part, written) = subst (WritesUpTo 1 a b) is (n, omega (arith, part), written)

-- a prefix of a part is a prefix of the whole
pub front_more : (left : ℕ) (a b : Option (List ℕ)) (xs ys : List ℕ) → WritesUpTo left a b xs → WritesUpTo left a b (xs ++ ys)
front_more left a b xs ys (front, within, written) =
    (front, omega (arith, within, length-append xs ys), subst (Appends a b) (sym (take-append-le front xs ys (omega (arith, within)))) written)

-- the same for a text that was broken off
pub breaks_more : (fault : JudgementFault) (a b : Option (List ℕ)) (xs ys : List ℕ) → BreaksOffLine fault a b xs → BreaksOffLine fault a b (xs ++ ys)
breaks_more fault a b xs ys (early, front) = (early, front_more _ a b xs ys front)

-- a prefix after a whole text
pub front_after : (left : ℕ) (a b c : Option (List ℕ)) (xs ys : List ℕ) → Appends a b xs → WritesUpTo left b c ys → WritesUpTo left a c (xs ++ ys)
front_after left a b c xs ys all (front, within, written) =
    (length xs + front, omega (arith, within, length-append xs ys), subst (Appends a c) (sym (take-append-add xs ys front)) (Appends-join a b c xs (take front ys) all written))
