-- The lengths of numbers in decimal, and their leading zeros.
use Rattle.std.proofs.Common.{◌≡◌, ◌/◌, ◌%◌, ◌-◌, ◌<◌, ◌≤◌, ◌^◌, ◌++◌, ◌∷◌, ◌∙◌, [], ℕ, List, Result, Ok, Err, IsOk, OnOk, ap, arith, decimal, length, length-append, replicate, take}
use Rattle.std.proofs.lemmas.Fmt.{length-decimal-le}
use Rattle.std.proofs.lemmas.List.{length-replicate, take-replicate}
use Rattle.zh_text.specs.Numbers.{millionths_text, padded}

abbrev pub six_zeros : List ℕ
six_zeros = 48 ∷ 48 ∷ 48 ∷ 48 ∷ 48 ∷ 48 ∷ []

-- a number below 10 ^ digits has no more digits
pub short : (digits number : ℕ) → 1 ≤ digits → number < 10 ^ digits → number < 2 ^ 32 → length (decimal number) ≤ digits
short digits number some small fits = length-decimal-le digits number (omega (arith, some)) small (omega (arith, fits))

pub length-padded : (digits number : ℕ) → length (decimal number) ≤ digits → length (padded digits number) ≡ digits
length-padded digits number few =
    let zero : ℕ = 48 in
    omega (arith, few, length-append (replicate (digits - length (decimal number)) zero) (decimal number), length-replicate (digits - length (decimal number)) zero)

-- what holds on success holds, because the result is a success
pub is_put : {T E P : Type 0} (result : Result T E) → IsOk result → OnOk result P → P
is_put (Ok done) is there = there
is_put (Err fault) is there = absurd (cc is)

-- one zero is written for each digit that the number lacks
pub zeros_put : (none zeros written : List ℕ) (digits number : ℕ) → digits ≤ 6 → none ≡ [] → written ≡ decimal number
    → zeros ≡ none ++ take (digits - length written) six_zeros → zeros ≡ replicate (digits - length (decimal number)) 48
zeros_put none zeros written digits number few empty are put =
    put ∙ ap (λ (l : List ℕ). l ++ take (digits - length written) six_zeros) empty ∙ ap (λ (l : List ℕ). take (digits - length l) six_zeros) are
    ∙ take-replicate (digits - length (decimal number)) 6 48 (omega (arith, few))

-- a 64-bit number has at most 20 digits
pub digits : (n : ℕ) → n < 2 ^ 64 → length (decimal n) ≤ 20
digits n small = length-decimal-le 20 n (omega arith) (omega arith) small

six : (n : ℕ) → n < 1000000 → length (padded 6 n) ≡ 6
six n small = length-padded 6 n (length-decimal-le 6 n (omega arith) (omega arith) (omega arith))

pub divisor : (n : ℕ) → n < 2 ^ 64 → length (millionths_text n) ≤ 27
divisor n small =
    let whole = digits (n / 1000000) (omega arith) in
    let rest = simp length-append at (six (n % 1000000) (omega arith)) in
    simp length-append (omega (arith, whole, rest))
