-- Sums of seats.
use Rattle.std.proofs.Common.{◌≡◌, ℕ, suc, ◌+◌, ◌<◌, ◌≤◌, List, [], ◌∷◌, All, length, get_or, set, sum, refl, ap, arith}
use Rattle.std.proofs.lemmas.List.Elements.{All-from_get_or}
use Rattle.std.proofs.lemmas.List.Sums.{sum_by-le, get_or-le-sum_by, sum_by-cons, sum_by-set}
use Rattle.std.proofs.Math.Nat.{le_of_eq}

pub sum-zeros : (xs : List ℕ) → ((k : ℕ) → k < length xs → get_or xs k 0 ≡ 0) → sum xs ≡ 0
sum-zeros xs none =
    omega (arith, sum_by-le (λ x. x) 0 xs (All-from_get_or (λ x. x ≤ 0) xs 0 (λ k lt. le_of_eq (none k lt))))

-- no number is above the sum
pub All-le-sum : (xs : List ℕ) (most : ℕ) → sum xs ≤ most → All (λ x. x ≤ most) xs
All-le-sum xs most small = λ k d lt. omega (arith, get_or-le-sum_by (λ x. x) xs k d lt)

pub sum-one_more : (xs : List ℕ) (i : ℕ) → i < length xs → sum (set xs i (get_or xs i 0 + 1)) ≡ sum xs + 1
sum-one_more xs i lt = omega (arith, sum_by-set (λ x. x) xs i (get_or xs i 0 + 1) 0 lt)

-- numbers that are at most those of a list and have at least its sum are that list
pub same-from_sum : (xs ys : List ℕ) → length ys ≡ length xs → ((k : ℕ) → k < length xs → get_or ys k 0 ≤ get_or xs k 0) →
    sum xs ≤ sum ys → ys ≡ xs
same-from_sum [] [] same below least = refl
same-from_sum [] (y ∷ ys) same below least = absurd (omega arith)
same-from_sum (x ∷ xs) [] same below least = absurd (omega arith)
same-from_sum (x ∷ xs) (y ∷ ys) same below least =
    let head : y ≤ x = below 0 (omega arith) in
    let tail : (k : ℕ) → k < length xs → get_or ys k 0 ≤ get_or xs k 0 = λ k lt. below (suc k) (omega arith) in
    let xs_is : sum (x ∷ xs) ≡ x + sum xs = sum_by-cons (λ n. n) x xs in
    let ys_is : sum (y ∷ ys) ≡ y + sum ys = sum_by-cons (λ n. n) y ys in
    let same_tail : ys ≡ xs = same-from_sum xs ys (omega arith) tail (omega arith) in
    let same_head : y ≡ x = omega (arith, ap sum same_tail) in
    cc
