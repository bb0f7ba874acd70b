-- Powers of whole numbers.
use Rattle.std.proofs.Common.{◌≡◌, ℕ, zero, suc, ◌+◌, ◌*◌, ◌^◌, ◌<◌, ◌≤◌, inl, inr, refl, arith}
use Rattle.std.proofs.lemmas.Bool.{cases_lt}
use Rattle.std.proofs.lemmas.Nat.{mul-pow, pow-add}
use Rattle.std.proofs.Math.Nat.{one-le-pow, pow-le-pow_left, pow-le-pow_right, pow-suc, pow-zero}
use Rattle.zh_decided.specs.Logarithms.{power}

pub power-is : (n e : ℕ) → power n e ≡ n ^ e
unfolding power
power-is n e = refl

pub power-zero : (n : ℕ) → power n 0 ≡ 1
unfolding power
power-zero n = pow-zero n

pub power-suc : (n e : ℕ) → power n (suc e) ≡ power n e * n
unfolding power
power-suc n e = pow-suc n e

pub power-add : (n i j : ℕ) → power n (i + j) ≡ power n i * power n j
unfolding power
power-add n i j = pow-add n i j

pub power-mul : (a b e : ℕ) → power (a * b) e ≡ power a e * power b e
unfolding power
power-mul a b e = mul-pow a b e

pub power-one : (n : ℕ) → power n 1 ≡ n
power-one n = rw (power-suc n 0, power-zero n) (omega arith)

pub power-two : (n e : ℕ) → power n (2 * e) ≡ power n e * power n e
power-two n e = let double : 2 * e ≡ e + e = omega arith in rw double (power-add n e e)

-- a power of a power
pub power-power : (n i j : ℕ) → power (power n i) j ≡ power n (i * j)
power-power n i zero = let none : i * 0 ≡ 0 = omega arith in rw (power-zero (power n i), none, power-zero n) refl
power-power n i (suc j) =
    let split : i * suc j ≡ i * j + i = omega arith in
    rw (power-suc (power n i) j, power-power n i j, split, power-add n (i * j) i) refl

pub power_positive : (n e : ℕ) → 0 < n → 0 < power n e
unfolding power
power_positive n e positive = one-le-pow e n positive

pub power_rises : (a b e : ℕ) → a ≤ b → power a e ≤ power b e
unfolding power
power_rises a b e le = pow-le-pow_left le e

pub exponent_rises : (n i j : ℕ) → 0 < n → i ≤ j → power n i ≤ power n j
unfolding power
exponent_rises n i j positive le = pow-le-pow_right positive le

-- from the order of powers to the order of their bases or exponents
pub base_less : (a b e : ℕ) → power a e < power b e → a < b
base_less a b e lt =
    elim (cases_lt a b) [
      | inl less ↦ less
      | inr le ↦ absurd (omega (arith, power_rises b a e le))
    ]

pub exponent_less : (n i j : ℕ) → 0 < n → power n i < power n j → i < j
exponent_less n i j positive lt =
    elim (cases_lt i j) [
      | inl less ↦ less
      | inr le ↦ absurd (omega (arith, exponent_rises n j i positive le))
    ]

-- an exponent that is larger by two
pub power-four : (l : ℕ) → power 2 (l + 2) ≡ 4 * power 2 l
power-four l =
    let split : l + 2 ≡ suc (suc l) = omega arith in
    rw (split, power-suc 2 (suc l), power-suc 2 l) (omega arith)
