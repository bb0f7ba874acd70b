-- Sums along a chain, and the pigeonhole principle.
use Rattle.std.proofs.Common.{◌≡◌, ◌≢◌, ℕ, zero, suc, ◌+◌, ◌*◌, ◌<◌, cond, eqb, inl, inr, sym, ap, ◌∙◌, arith, add-one}
use Rattle.std.proofs.lemmas.Bool.{cases_eq, eq-eqb, ne_eqb}
use Rattle.zh_divisors.specs.Sums.{sum_to}

-- if v k + last k + s = v (k + 1) + next k in each step, the same holds for the sums along the whole chain
pub along : (n s : ℕ) (v last next : ℕ → ℕ) → ((k : ℕ) → k < n → v k + last k + s ≡ v (k + 1) + next k) →
    v 0 + sum_to n last + n * s ≡ v n + sum_to n next
along zero s v last next each = omega arith
along (suc n) s v last next each =
    let before : v 0 + sum_to n last + n * s ≡ v n + sum_to n next = along n s v last next (λ k lt. each k (omega arith)) in
    let here : v n + last n + s ≡ v (n + 1) + next n = each n (omega arith) in
    rw (← add-one) (omega (arith, before, here))

-- `other` in place of the value n, and any other value unchanged
swapped : ℕ → ℕ → ℕ → ℕ
swapped n other value = cond (eqb value n) other value

swapped-here : (n other value : ℕ) → value ≡ n → swapped n other value ≡ other
unfolding swapped
swapped-here n other value is = ap (λ b. cond b other value) (eq-eqb value n is)

swapped-else : (n other value : ℕ) → value ≢ n → swapped n other value ≡ value
unfolding swapped
swapped-else n other value differ = ap (λ b. cond b other value) (ne_eqb value n differ)

-- n + 1 things do not all have different places below n (pigeonhole principle)
pub too_many : (n : ℕ) (f : ℕ → ℕ) → ((k : ℕ) → k < n + 1 → f k < n) → ((j k : ℕ) → j < k → k < n + 1 → f j ≢ f k) → ⊥
too_many zero f within differ = omega (arith, within 0 (omega arith))
too_many (suc n) f within differ =
    let top : ℕ = n + 1 in
    let small : (k : ℕ) → k < n + 1 → swapped n (f top) (f k) < n
    = λ k lt. elim (cases_eq (f k) n) [
      | inl is ↦ omega (arith, swapped-here n (f top) (f k) is, within top (omega arith), differ k top (omega arith) (omega arith))
      | inr other ↦ omega (arith, swapped-else n (f top) (f k) other, within k (omega arith), other)
    ] in
    too_many n (λ k. swapped n (f top) (f k)) small (λ j k jk kn same. elim (cases_eq (f j) n) [
      | inl is ↦ elim (cases_eq (f k) n) [
        | inl also ↦ differ j k jk (omega arith) (is ∙ sym also)
        | inr other ↦
            differ k top (omega arith) (omega arith)
            (sym (sym (swapped-here n (f top) (f j) is) ∙ same ∙ swapped-else n (f top) (f k) other))
      ]
      | inr not ↦ elim (cases_eq (f k) n) [
        | inl also ↦
            differ j top (omega arith) (omega arith)
            (sym (swapped-else n (f top) (f j) not) ∙ same ∙ swapped-here n (f top) (f k) also)
        | inr other ↦
            differ j k jk (omega arith) (sym (swapped-else n (f top) (f j) not) ∙ same ∙ swapped-else n (f top) (f k) other)
      ]
    ])
