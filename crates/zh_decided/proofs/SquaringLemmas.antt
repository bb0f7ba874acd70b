-- Squarings give each number at most one logarithm, and no larger number a smaller one.
use Rattle.std.proofs.Common.{◌≡◌, ℕ, zero, suc, ◌+◌, ◌-◌, ◌*◌, ◌^◌, ◌<◌, ◌≤◌, ◌⊎◌, inl, inr, ap, ◌∙◌, Bool, true, false, if◌then◌else◌, arith, add-one}
use Rattle.std.proofs.lemmas.Bool.{cases_order}
use Rattle.std.proofs.lemmas.Nat.{pow-add}
use Rattle.std.specs.Int.{from_bool}
use Rattle.std.proofs.Math.Nat.{le_antisymm, le_of_mul-le-mul_right, mul-le-mul, mul-le-mul_right, one-le-pow, pow-le-pow_right}
use Rattle.zh_decided.specs.Logarithms.{HasLogarithm, IsAntilogarithm, IsCutSquare, IsShifted, IsSquared}
use Rattle.zh_decided.proofs.ApproximationLemmas.{Approximates}
use Rattle.zh_decided.proofs.PowerLemmas.{power-is, power-one}

-- mantissas from 2^63 to 2^64 with different whole parts of the logarithm
higher : (m m' l l' : ℕ) → l' < l → 2 ^ 63 ≤ m → m' < 2 ^ 64 → m * 2 ^ l ≤ m' * 2 ^ l' → ⊥
higher m m' l l' less least fits products =
    let rises : 2 ^ (l' + 1) ≤ 2 ^ l = pow-le-pow_right {n = 2} (omega arith) {i = l' + 1} {j = l} (omega arith) in
    let twice : 2 ^ (l' + 1) ≡ 2 ^ l' * 2 ^ 1 = pow-add 2 l' 1 in
    let some : 1 ≤ 2 ^ l' = one-le-pow l' 2 (omega arith) in
    let most : m' * 2 ^ l' + 2 ^ l' ≤ 2 ^ 64 * 2 ^ l' = omega (arith, mul-le-mul_right {m = m' + 1} {n = 2 ^ 64} (2 ^ l') (omega arith)) in
    let least-product : 2 ^ 63 * (2 ^ l' * 2) ≤ m * 2 ^ l = mul-le-mul least (omega arith) in
    omega (arith, some)

same-whole : (m m' l l' : ℕ) → l ≡ l' → m * 2 ^ l ≤ m' * 2 ^ l' → m ≤ m'
same-whole m m' l l' same products =
    let both : m * 2 ^ l ≤ m' * 2 ^ l = rw (← same) at products in
    le_of_mul-le-mul_right both (one-le-pow l 2 (omega arith))

-- the whole part, and then the mantissa, are in the order of the numbers
shifted-in-order : (n k m m' l l' : ℕ) → n ≤ k → IsShifted n m l → IsShifted k m' l' → (l < l') ⊎ ((l ≡ l') × (m ≤ m'))
shifted-in-order n k m m' l l' le S T =
    let order : n * 2 ^ 63 ≤ k * 2 ^ 63 = mul-le-mul_right (2 ^ 63) le in
    let products : m * 2 ^ l ≤ m' * 2 ^ l' = omega (arith, S.same, T.same) in
    elim (cases_order l l') [
      | inl same ↦ inr (same, same-whole m m' l l' same products)
      | inr (inl less) ↦ inl less
      | inr (inr more) ↦ absurd (higher m m' l l' more S.least T.fits products)
    ]

-- the same holds for their squares
cut-in-order : (b b' l l' old old' m m' : ℕ) (twice twice' : Bool) → b ≡ b' → old ≤ old' → IsCutSquare old m twice → IsCutSquare old' m' twice' →
    l ≡ 2 * b + (if twice then 1 else 0) → l' ≡ 2 * b' + (if twice' then 1 else 0) → (l < l') ⊎ ((l ≡ l') × (m ≤ m'))
cut-in-order b b' l l' old old' m m' true true same le S T at at' =
    let squares : old * old ≤ old' * old' = mul-le-mul le le in
    inr (omega arith, omega (arith, squares, S.at_most, T.nearly))
cut-in-order b b' l l' old old' m m' false false same le S T at at' =
    let squares : old * old ≤ old' * old' = mul-le-mul le le in
    inr (omega arith, omega (arith, squares, S.at_most, T.nearly))
cut-in-order b b' l l' old old' m m' false true same le S T at at' = inl (omega arith)
cut-in-order b b' l l' old old' m m' true false same le S T at at' =
    let squares : old * old ≤ old' * old' = mul-le-mul le le in
    absurd (omega (arith, squares, S.least, S.at_most, T.fits, T.nearly))

digit : (twice : Bool) → (if twice then 1 else 0) ≤ 1
digit true = omega arith
digit false = omega arith

in-order : (n k i m m' l l' : ℕ) → n ≤ k → IsSquared n i m l → IsSquared k i m' l' → (l < l') ⊎ ((l ≡ l') × (m ≤ m'))
unfolding IsSquared
in-order n k zero m m' l l' le S T = shifted-in-order n k m m' l l' le S T
in-order n k (suc i) m m' l l' le S T = elim (in-order n k i S.0 T.0 S.1 T.1 le S.3 T.3) [
  | inl less ↦ inl (omega (arith, less, S.5, T.5, digit S.2))
  | inr same ↦ cut-in-order S.1 T.1 l l' S.0 T.0 m m' S.2 T.2 same.0 same.1 S.4 T.4 S.5 T.5
]

-- logarithms are in the order of the numbers, and each number has at most one
pub rises : (n k l l' : ℕ) → n ≤ k → HasLogarithm n l → HasLogarithm k l' → l ≤ l'
rises n k l l' le L M = elim (in-order n k 30 L.mantissa M.mantissa l l' le L.squared M.squared) [
  | inl less ↦ omega (arith, less)
  | inr same ↦ omega (arith, same.0)
]

pub only-logarithm : (n l l' : ℕ) → HasLogarithm n l → HasLogarithm n l' → l' ≡ l
only-logarithm n l l' L M = le_antisymm (rises n n l' l (omega arith) M L) (rises n n l l' (omega arith) L M)

no-greater : (l most n k : ℕ) → IsAntilogarithm l most n → IsAntilogarithm l most k → k ≤ n
no-greater l most n k A B = elim (cases_order n k) [
  | inl same ↦ omega (arith, same)
  | inr (inl less) ↦
      let past : (j : ℕ) × HasLogarithm (n + 1) j × (l < j) = A.next (omega (arith, less, B.at_most)) in
      absurd (omega (arith, past.2, B.within.2, rises (n + 1) k past.0 B.within.0 (omega (arith, less)) past.1 B.within.1))
  | inr (inr more) ↦ omega (arith, more)
]

-- the antilogarithm is unique
pub only-antilogarithm : (l most n k : ℕ) → IsAntilogarithm l most n → IsAntilogarithm l most k → k ≡ n
only-antilogarithm l most n k A B = le_antisymm (no-greater l most n k A B) (no-greater l most k n B A)

-- the number as the code shifts it
pub shifted-of : (n m l : ℕ) → 2 ^ 63 ≤ m → m < 2 ^ 64 → Approximates n 0 m l → IsSquared n 0 m l
unfolding IsSquared
shifted-of n m l least fits A =
    let at-most : m * 2 ^ l ≤ 2 ^ 63 * n = rw (power-is 2 l, power-one n) at A.at_most in
    let nearly : 2 ^ 126 * n ≤ m * 2 ^ l * (2 ^ 63 + 4 * (2 ^ 0 - 1)) = rw (power-is 2 l, power-one n) at A.nearly in
    record { least = least; fits = fits; same = omega (arith, at-most, nearly) }

digit-is : (t : ℕ) (twice : Bool) → t ≡ from_bool twice → t ≡ (if twice then 1 else 0)
digit-is t true e = e
digit-is t false e = e

-- one more squaring
pub squared-again : (n i m old before t : ℕ) (twice : Bool) → t ≡ from_bool twice → IsSquared n i old before → IsCutSquare old m twice →
    IsSquared n (i + 1) m (2 * before + t)
unfolding IsSquared
squared-again n i m old before t twice e S C = rw add-one (old, before, twice, S, C, ap (λ d. 2 * before + d) (digit-is t twice e))

-- the logarithm of a power of two
half-of-all : IsCutSquare (2 ^ 63) (2 ^ 63) false
half-of-all = record { least = omega arith; fits = omega arith; at_most = omega arith; nearly = omega arith }

power-of-two : (e i : ℕ) → IsSquared (2 ^ e) i (2 ^ 63) (e * 2 ^ i)
unfolding IsSquared
power-of-two e zero =
    let all : e * 2 ^ 0 ≡ e = omega arith in
    rw all (record { least = omega arith; fits = omega arith; same = omega arith })
power-of-two e (suc i) =
    let one : suc i ≡ i + 1 = omega arith in
    let twice : 2 ^ suc i ≡ 2 ^ i * 2 ^ 1 = ap (λ x. 2 ^ x) one ∙ pow-add 2 i 1 in
    (2 ^ 63, e * 2 ^ i, false, power-of-two e i, half-of-all, omega (arith, ap (λ x. e * x) twice))

pub power-logarithm : (e : ℕ) → HasLogarithm (2 ^ e) (e * 2 ^ 30)
power-logarithm e = record { mantissa = 2 ^ 63; squared = power-of-two e 30 }
