-- The flags of municipalities as the bits of a byte.
use Rattle.std.proofs.Common.{◌≡◌, ℕ, zero, suc, ◌+◌, ◌*◌, ◌/◌, ◌^◌, ◌<◌, ◌%◌, ◌==◌, Bool, true, false, cond, List, [], ◌∷◌, length, get_or, refl, sym, ap, ◌∙◌, arith}
use Rattle.std.proofs.Math.Nat.{pow-suc, div-div-eq-div-mul, pow-succ'}
use Rattle.std.proofs.lemmas.Bool.Decides.{nat_tests}
use Rattle.zh_districts.specs.Spelling.{mask_of}
use Rattle.zh_returns.specs.Tables.{bit_of}

-- the higher bits of a number are those of its half
higher_bit : (n k : ℕ) → bit_of n (suc k) ≡ bit_of (n / 2) k
higher_bit n k = ap (λ (q : ℕ). q % 2 == 1) (ap (λ (p : ℕ). n / p) (pow-succ' 2 k) ∙ sym (div-div-eq-div-mul n 2 (2 ^ k)))

-- the lowest bit
lowest_bit : (x : Bool) (n : ℕ) → bit_of (cond x 1 0 + 2 * n) 0 ≡ x
lowest_bit true n = grind (arith, nat_tests)
lowest_bit false n = grind (arith, nat_tests)

half : (x : Bool) (n : ℕ) → (cond x 1 0 + 2 * n) / 2 ≡ n
half true n = omega arith
half false n = omega arith

no_bits : (k : ℕ) → bit_of 0 k ≡ false
no_bits zero = refl
no_bits (suc k) = higher_bit 0 k ∙ no_bits k

-- a bit of the byte is the flag at its place
pub bit_of-mask_of : (flags : List Bool) (k : ℕ) → bit_of (mask_of flags) k ≡ get_or flags k false
bit_of-mask_of [] k = no_bits k
bit_of-mask_of (flag ∷ flags) zero = lowest_bit flag (mask_of flags)
bit_of-mask_of (flag ∷ flags) (suc k) =
    higher_bit (cond flag 1 0 + 2 * mask_of flags) k ∙ ap (λ (n : ℕ). bit_of n k) (half flag (mask_of flags)) ∙ bit_of-mask_of flags k

split_bit : (n : ℕ) (x : Bool) → x ≡ bit_of n 0 → cond x 1 0 + 2 * (n / 2) ≡ n
split_bit n true is = grind (arith, nat_tests)
split_bit n false is = grind (arith, nat_tests)

-- flags that are the bits of a number give the number
pub mask_of-bits : (flags : List Bool) (n : ℕ) → n < 2 ^ length flags → ((k : ℕ) → k < length flags → get_or flags k false ≡ bit_of n k) → mask_of flags ≡ n
mask_of-bits [] n small bits = omega arith
mask_of-bits (flag ∷ flags) n small bits =
    let rest : mask_of flags ≡ n / 2 = mask_of-bits flags (n / 2) (halved small) (λ k within. bits (suc k) (omega arith) ∙ higher_bit n k) in
    ap (λ (m : ℕ). cond flag 1 0 + 2 * m) rest ∙ split_bit n flag (bits 0 (omega arith))
  where
    halved : n < 2 ^ suc (length flags) → n / 2 < 2 ^ length flags
    halved s = let e = pow-suc 2 (length flags) in omega arith
