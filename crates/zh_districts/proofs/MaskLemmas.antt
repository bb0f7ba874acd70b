-- Masks: flags as the bits of a number, for example those of the constituencies where a group stands.
use Rattle.std.proofs.Common.{◌≡◌, ℕ, zero, suc, ◌+◌, ◌*◌, ◌^◌, ◌<◌, ◌≤◌, ◌%◌, Bool, true, false, cond, List, [], ◌∷◌, length, get_or, take, refl, ◌∙◌, arith, add-one}
use Rattle.std.proofs.Math.Nat.{pow-suc, pow-le-pow_right, mod-eq_of_lt}
use Rattle.std.proofs.lemmas.Nat.{pow_pos}
use Rattle.zh_districts.specs.Spelling.{mask_of}

-- one more place
pub mask_of-more : (xs : List Bool) (i : ℕ) (d : Bool) → i < length xs → mask_of (take (suc i) xs) ≡ mask_of (take i xs) + cond (get_or xs i d) (2 ^ i) 0
mask_of-more [] i d h = absurd (omega arith)
mask_of-more (true ∷ xs) zero d h = refl
mask_of-more (false ∷ xs) zero d h = refl
mask_of-more (x ∷ xs) (suc i) d h = more x (get_or xs i d) (mask_of (take (suc i) xs)) (mask_of (take i xs)) (mask_of-more xs i d (omega arith))
  where
    more : (x y : Bool) (m n : ℕ) → m ≡ n + cond y (2 ^ i) 0 → cond x 1 0 + 2 * m ≡ (cond x 1 0 + 2 * n) + cond y (2 ^ suc i) 0
    more x true m n e = rw (e, pow-suc 2 i) (omega arith)
    more x false m n e = rw e (omega arith)

-- a mask of n places
pub mask_of-lt : (xs : List Bool) → mask_of xs < 2 ^ length xs
mask_of-lt [] = omega arith
mask_of-lt (true ∷ xs) = let h = mask_of-lt xs in rw (pow-suc 2 (length xs)) (omega arith)
mask_of-lt (false ∷ xs) = let h = mask_of-lt xs in rw (pow-suc 2 (length xs)) (omega arith)

-- a mask of at most `width` places fits
pub mask_of-fits : (width : ℕ) (xs : List Bool) → length xs ≤ width → mask_of xs < 2 ^ width
mask_of-fits width xs short =
    let h = mask_of-lt xs in let up : 2 ^ length xs ≤ 2 ^ width = pow-le-pow_right {n = 2} (omega arith) short in omega arith

bit_fits : (width i : ℕ) → i < width → 1 * 2 ^ i % 2 ^ width ≡ 2 ^ i
bit_fits width i h =
    let small : suc i ≤ width = omega arith in
    let up : 2 ^ suc i ≤ 2 ^ width = pow-le-pow_right {n = 2} (omega arith) small in
    let positive = pow_pos i in
    let twice : 2 ^ suc i ≡ 2 * 2 ^ i = rw (pow-suc 2 i) (omega arith) in
    mod-eq_of_lt {n = 1 * 2 ^ i} {m = 2 ^ width} (omega arith) ∙ omega arith

-- the mask after a place that is set
pub mask_of-here : (width : ℕ) (xs : List Bool) (i m : ℕ) → i < length xs → length xs ≤ width → get_or xs i false ≡ true → m ≡ mask_of (take i xs) →
    m + 1 * 2 ^ i % 2 ^ width ≡ mask_of (take (i + 1) xs)
mask_of-here width xs i m within short here so_far =
    let more = mask_of-more xs i false within in
    rw (add-one i, more, here, bit_fits width i (omega arith), so_far) refl

-- the mask after a place that is not set
pub mask_of-not_here : (xs : List Bool) (i m : ℕ) → i < length xs → get_or xs i false ≡ false → m ≡ mask_of (take i xs) → m ≡ mask_of (take (i + 1) xs)
mask_of-not_here xs i m within here so_far =
    let more = mask_of-more xs i false within in
    rw (add-one i, more, here, so_far) (omega arith)
