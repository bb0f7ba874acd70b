-- A text that is split at a byte: into lines, and a line into words.
use Rattle.std.proofs.Common.{◌≡◌, ℕ, ◌+◌, ◌<◌, ◌≤◌, All, List, [], ◌∷◌, ◌++◌, length, get_or, take, drop, refl, ap, sym, ◌∙◌, arith, append_assoc, drop_at, length-append}
use Rattle.std.specs.Prelude.{◌==◌}
use Rattle.std.specs.List.{after_first, before_first, position_or_len}
use Rattle.std.proofs.lemmas.Bool.{eq-eqb, ne_eqb}
use Rattle.std.proofs.lemmas.List.{get_or_append_left, take_all}
use Rattle.std.proofs.lemmas.List.Sums.{position_or_len_is}
use Rattle.std.proofs.Math.Seq.{get_or-append_seam, take-append_seam}
use Rattle.zh_check.specs.Lines.{after_line, after_word, first_line, leading_word}

-- the index of a byte that does not occur earlier
seam_at : (c : ℕ) (xs rest : List ℕ) → All (λ b. c < b) xs → position_or_len (λ b. b == c) (xs ++ c ∷ rest) ≡ length xs
seam_at c xs rest above =
    position_or_len_is (λ b. b == c) (xs ++ c ∷ rest) (length xs) 0 (omega (arith, length-append xs (c ∷ rest)))
    (λ k lt. ne_eqb (get_or (xs ++ c ∷ rest) k 0) c (λ e. absurd (omega (arith, e, get_or_append_left xs (c ∷ rest) 0 k lt, above k 0 lt))))
    (λ there. eq-eqb (get_or (xs ++ c ∷ rest) (length xs) 0) c (get_or-append_seam xs c rest 0))

nowhere : (c : ℕ) (xs : List ℕ) → All (λ b. c < b) xs → position_or_len (λ b. b == c) xs ≡ length xs
nowhere c xs above =
    position_or_len_is (λ b. b == c) xs (length xs) 0 (omega arith) (λ k lt. ne_eqb (get_or xs k 0) c (λ e. absurd (omega (arith, e, above k 0 lt))))
    (λ there. absurd (omega (arith, there)))

past_seam : (xs : List ℕ) (y : ℕ) (ys : List ℕ) → drop (length xs + 1) (xs ++ y ∷ ys) ≡ ys
past_seam xs y ys = ap (drop (length xs + 1)) (sym (append_assoc xs (y ∷ []) ys)) ∙ drop_at (xs ++ y ∷ []) ys (length xs + 1) (length-append xs (y ∷ []))

seam_front : (c : ℕ) (xs rest : List ℕ) → All (λ b. c < b) xs → before_first (λ b. b == c) (xs ++ c ∷ rest) ≡ xs
seam_front c xs rest above = ap (λ n. take n (xs ++ c ∷ rest)) (seam_at c xs rest above) ∙ take-append_seam xs (c ∷ rest)

seam_back : (c : ℕ) (xs rest : List ℕ) → All (λ b. c < b) xs → after_first (λ b. b == c) (xs ++ c ∷ rest) ≡ rest
seam_back c xs rest above = ap (λ n. drop (n + 1) (xs ++ c ∷ rest)) (seam_at c xs rest above) ∙ past_seam xs c rest

-- no byte is below the space, 32; in a word the space is excluded too
abbrev pub IsPlain : List ℕ → Type 0
IsPlain line = All (λ b. 32 ≤ b) line

abbrev pub IsWord : List ℕ → Type 0
IsWord word = All (λ b. 33 ≤ b) word

pub word_plain : (word : List ℕ) → IsWord word → IsPlain word
word_plain word is k d lt = omega (arith, is k d lt)

-- a line is read
pub line_front : (body rest : List ℕ) → IsPlain body → first_line (body ++ 10 ∷ rest) ≡ body
unfolding first_line
line_front body rest plain = seam_front 10 body rest (λ k d lt. omega (arith, plain k d lt))

pub line_back : (body rest : List ℕ) → IsPlain body → after_line (body ++ 10 ∷ rest) ≡ rest
unfolding after_line
line_back body rest plain = seam_back 10 body rest (λ k d lt. omega (arith, plain k d lt))

-- the first word of a line: all of it if no space follows, and nothing if the line is empty
pub word_front : (word rest : List ℕ) → IsWord word → leading_word (word ++ 32 ∷ rest) ≡ word
unfolding leading_word
word_front word rest is = seam_front 32 word rest (λ k d lt. omega (arith, is k d lt))

pub word_back : (word rest : List ℕ) → IsWord word → after_word (word ++ 32 ∷ rest) ≡ rest
unfolding after_word
word_back word rest is = seam_back 32 word rest (λ k d lt. omega (arith, is k d lt))

pub word_alone : (word : List ℕ) → IsWord word → leading_word word ≡ word
unfolding leading_word
word_alone word is = take_all (position_or_len (λ b. b == 32) word) word (omega (arith, nowhere 32 word (λ k d lt. omega (arith, is k d lt))))

pub no_word : leading_word [] ≡ []
unfolding leading_word
no_word = refl

pub no_more : after_word [] ≡ []
unfolding after_word
no_more = refl
