-- The divisor of a line, that is, of a row or a column of a matrix of votes. It depends on the votes of the line, on the divisors
-- of the lines that cross it, and on the seats that it is to get. Divisors are in millionths.
use Rattle.std.specs.Prelude.{◌≡◌, ℕ, zero, suc, ◌+◌, ◌-◌, ◌*◌, ◌/◌, ◌^◌, ◌<◌, ◌≤◌, Bool, nat_le}
use Rattle.std.specs.Prelude.{if◌then◌else◌, min, max, List, All, Any, length}
use Rattle.zh_divisors.specs.Sums.{sum_to}

-- n / p, rounded to the nearest whole number, a half up
abbrev pub half_up : ℕ → ℕ → ℕ
half_up n p = (2 * n + p) / (2 * p)

-- n / p, rounded to the nearest whole number, a half down
abbrev pub half_down : ℕ → ℕ → ℕ
half_down n p = (2 * n + p - 1) / (2 * p)

-- the sum of the quotients of the first n cells under the divisor D, each rounded half up
abbrev pub half_up_total : ℕ → (ℕ → ℕ) → (ℕ → ℕ) → ℕ → ℕ
half_up_total n votes others D = sum_to n (λ i. half_up (votes i * 10 ^ 12) (others i * D))

-- the same, each rounded half down
abbrev pub half_down_total : ℕ → (ℕ → ℕ) → (ℕ → ℕ) → ℕ → ℕ
half_down_total n votes others D = sum_to n (λ i. half_down (votes i * 10 ^ 12) (others i * D))

-- x is the least divisor under which the line gets at most its target, rounded half up
pub record IsLeastDivisor (n : ℕ) (votes others : ℕ → ℕ) (target x : ℕ) : Type 0 where
  pub from_1 : 1 ≤ x
  pub at_most : half_up_total n votes others x ≤ target
  pub least : (D : ℕ) → 1 ≤ D → half_up_total n votes others D ≤ target → x ≤ D

-- x is the greatest divisor under which the line gets at least its target, rounded half down, or 0 if there is none
pub record IsGreatestDivisor (n : ℕ) (votes others : ℕ → ℕ) (target x : ℕ) : Type 0 where
  pub at_least : 1 ≤ x → target ≤ half_down_total n votes others x
  pub greatest : (D : ℕ) → 1 ≤ D → target ≤ half_down_total n votes others D → D ≤ x

-- the least number from 1 to the limit that passes, or limit + 1 if none does
abbrev pub least_passing : (ℕ → Bool) → ℕ → ℕ
least_passing passes zero = 1
least_passing passes (suc limit) =
    let before = least_passing passes limit in
    if passes before then before else before + 1

-- the greatest number from 1 to the limit that passes, or 0 if none does
abbrev pub greatest_passing : (ℕ → Bool) → ℕ → ℕ
greatest_passing passes zero = 0
greatest_passing passes (suc limit) = if passes (suc limit) then suc limit else greatest_passing passes limit

-- under a greater divisor than this every quotient is below a half; it does not unfold by itself, since antt would then run the
-- search up to it if the votes are literals
unfoldable pub limit_of : ℕ → (ℕ → ℕ) → ℕ
limit_of n votes = 2 * 10 ^ 12 * sum_to n votes

-- the least divisor under which the line gets at most its target, rounded half up
abbrev pub least_divisor : ℕ → (ℕ → ℕ) → (ℕ → ℕ) → ℕ → ℕ
least_divisor n votes others target =
    least_passing (λ D. nat_le (half_up_total n votes others D) target) (limit_of n votes)

-- the greatest divisor under which the line gets at least its target, rounded half down, or 0 if there is none
abbrev pub greatest_divisor : ℕ → (ℕ → ℕ) → (ℕ → ℕ) → ℕ → ℕ
greatest_divisor n votes others target =
    greatest_passing (λ D. nat_le target (half_down_total n votes others D)) (limit_of n votes)

-- a number clamped to the range from 1 to `most`
abbrev pub clamped : ℕ → ℕ → ℕ
clamped most x = max 1 (min most x)

-- the mean of the two, rounded down and only then clamped
abbrev pub line_divisor : ℕ → (ℕ → ℕ) → (ℕ → ℕ) → ℕ → ℕ → ℕ
line_divisor n votes others target most =
    clamped most ((least_divisor n votes others target + greatest_divisor n votes others target) / 2)

-- 1 to 32 cells, at least one of them with votes, each with the divisor of the line that crosses there
pub record IsMatrixLine (votes others : List ℕ) : Type 0 where
  pub at_most_32 : length votes ≤ 32
  pub same_length : length others ≡ length votes
  pub some_vote : Any (λ v. 0 < v) votes
  pub each_vote : All (λ v. v ≤ 10 ^ 14) votes
  pub each_positive : All (λ o. 1 ≤ o) others
  pub each_other : All (λ o. o ≤ 10 ^ 18) others
