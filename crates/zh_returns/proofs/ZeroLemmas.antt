-- Bytes that are all zero.
use Rattle.std.proofs.Common.{◌≡◌, ◌∙◌, ◌==◌, ◌&&◌, ℕ, zero, suc, Bool, true, false, List, [], ◌∷◌, length, replicate, ap, refl, rules, tests, arith}
use Rattle.std.specs.List.{list_all}
use Rattle.std.proofs.lemmas.Bool.{false≢true}
use Rattle.zh_returns.specs.Payload.{zeros}

both_true : (a b : Bool) → a && b ≡ true → (a ≡ true) × (b ≡ true)
both_true true b is = (refl, is)
both_true false b is = absurd (false≢true is)

is_zero : (n : ℕ) → n == 0 ≡ true → n ≡ 0
is_zero n is = search (rules, tests)

-- a list of zeros
pub zeros_from_all : (bytes : List ℕ) → list_all (λ byte. byte == 0) bytes ≡ true → bytes ≡ zeros (length bytes)
unfolding zeros
zeros_from_all [] all = refl
zeros_from_all (byte ∷ bytes) all =
    let parts = both_true (byte == 0) (list_all (λ b. b == 0) bytes) all in
    ap (λ (first : ℕ). first ∷ bytes) (is_zero byte parts.0) ∙ ap (λ (rest : List ℕ). 0 ∷ rest) (zeros_from_all bytes parts.1)

pub length-zeros : (n : ℕ) → length (zeros n) ≡ n
unfolding zeros
length-zeros zero = refl
length-zeros (suc n) = let e = length-zeros n in omega arith

pub all_zeros : (n : ℕ) → list_all (λ byte. byte == 0) (zeros n) ≡ true
unfolding zeros
all_zeros zero = refl
all_zeros (suc n) = all_zeros n

-- four zeros
pub four_zeros : (bytes : List ℕ) → length bytes ≡ 4 → list_all (λ byte. byte == 0) bytes ≡ true → bytes ≡ 0 ∷ 0 ∷ 0 ∷ 0 ∷ []
unfolding zeros
four_zeros bytes len all = zeros_from_all bytes all ∙ ap zeros len

pub zeros_filled : (n : ℕ) → replicate n 0 ≡ zeros n
unfolding zeros
zeros_filled zero = refl
zeros_filled (suc n) = ap (λ (rest : List ℕ). 0 ∷ rest) (zeros_filled n)
