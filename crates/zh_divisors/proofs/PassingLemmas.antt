-- The least and the greatest number that pass a test.
use Rattle.std.proofs.Common.{◌≡◌, ℕ, zero, suc, ◌+◌, ◌<◌, ◌≤◌, ◌⊎◌, Bool, true, false, inl, inr, refl, sym, ◌∙◌, arith}
use Rattle.std.proofs.lemmas.Bool.{cases_Bool, cases_eq, false≢true}
use Rattle.zh_divisors.specs.Line.{least_passing, greatest_passing}

pub least_passing-from_1 : (passes : ℕ → Bool) (limit : ℕ) → 1 ≤ least_passing passes limit
least_passing-from_1 passes zero = omega arith
least_passing-from_1 passes (suc limit) =
    elim (cases_Bool (passes (least_passing passes limit))) [
      | inl pass ↦ rw pass (least_passing-from_1 passes limit)
      | inr fail ↦ rw fail (omega arith)
    ]

-- the least one passes, or is one beyond the limit
pub least_passing-at : (passes : ℕ → Bool) (limit : ℕ) →
    (passes (least_passing passes limit) ≡ true) ⊎ (least_passing passes limit ≡ limit + 1)
least_passing-at passes zero = inr refl
least_passing-at passes (suc limit) =
    elim (cases_Bool (passes (least_passing passes limit))) [
      | inl pass ↦ inl (rw pass pass)
      | inr fail ↦ elim (least_passing-at passes limit) [
        | inl pass ↦ absurd (false≢true (sym fail ∙ pass))
        | inr is ↦ inr (rw fail (omega (arith, is)))
      ]
    ]

-- no number below it passes
pub least_passing-below : (passes : ℕ → Bool) (limit y : ℕ) → 1 ≤ y → y < least_passing passes limit → passes y ≡ false
least_passing-below passes zero y one below = absurd (omega arith)
least_passing-below passes (suc limit) y one below =
    elim (cases_Bool (passes (least_passing passes limit))) [
      | inl pass ↦ least_passing-below passes limit y one (rw pass at below)
      | inr fail ↦
          let there : y < least_passing passes limit + 1 = rw fail at below in
          elim (cases_eq y (least_passing passes limit)) [
            | inl is ↦ rw is fail
            | inr other ↦ least_passing-below passes limit y one (omega arith)
          ]
    ]

-- the greatest one passes, or is 0
pub greatest_passing-at : (passes : ℕ → Bool) (limit : ℕ) → 1 ≤ greatest_passing passes limit →
    passes (greatest_passing passes limit) ≡ true
greatest_passing-at passes zero one = absurd (omega arith)
greatest_passing-at passes (suc limit) one =
    elim (cases_Bool (passes (suc limit))) [
      | inl pass ↦ rw pass pass
      | inr fail ↦ rw fail (greatest_passing-at passes limit (rw fail at one))
    ]

-- no number above it, within the limit, passes
pub greatest_passing-above : (passes : ℕ → Bool) (limit y : ℕ) → greatest_passing passes limit < y → y ≤ limit → passes y ≡ false
greatest_passing-above passes zero y above within = absurd (omega arith)
greatest_passing-above passes (suc limit) y above within =
    elim (cases_Bool (passes (suc limit))) [
      | inl pass ↦ let there : suc limit < y = rw pass at above in absurd (omega arith)
      | inr fail ↦ elim (cases_eq y (suc limit)) [
        | inl is ↦ rw is fail
        | inr other ↦ greatest_passing-above passes limit y (rw fail at above) (omega arith)
      ]
    ]
