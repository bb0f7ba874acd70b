-- A strict fit is the only fit.
use Rattle.std.proofs.Common.{◌≡◌, ◌≢◌, ℕ, ◌+◌, ◌-◌, ◌*◌, ◌<◌, ◌≤◌, List, length, get_or, sum, inl, inr, sym, ap, ◌∙◌, arith}
use Rattle.std.proofs.lemmas.Bool.{cases_order, cases_lt}
use Rattle.std.proofs.lemmas.List.{ext_get_or}
use Rattle.std.proofs.Math.Nat.{mul-le-mul_left, le_of_eq}
use Rattle.zh_divisors.specs.Fit.{IsFit, IsStrictFit, IsTied}
use Rattle.zh_divisors.specs.Shares.{Apportionment, RoundsEach}
use Rattle.zh_divisors.proofs.RatioLemmas.{lt_by_lt_le}
use Rattle.zh_divisors.proofs.SumLemmas.{same-from_sum}

pub weak_from_strict : (weights : List ℕ) (house : ℕ) (seats : List ℕ) → IsStrictFit weights house seats → IsFit weights house seats
weak_from_strict weights house seats fit = record {
  one_each = fit.one_each;
  add_up = fit.add_up;
  in_order = λ i j iw jw differ seated. omega (arith, fit.in_order i j iw jw differ seated);
}

-- it is impossible that one weight has more seats in another fit and a second weight has fewer there
no_exchange : (weights seats others : List ℕ) (house : ℕ) → IsStrictFit weights house seats → IsFit weights house others →
    (i j : ℕ) → i < length weights → j < length weights →
    get_or seats i 0 < get_or others i 0 → get_or others j 0 < get_or seats j 0 → ⊥
no_exchange weights seats others house strict fit i j iw jw up down =
    let apart : i ≢ j = λ e. omega (arith, ap (λ k. get_or seats k 0) e, ap (λ k. get_or others k 0) e) in
    let back : j ≢ i = λ e. apart (sym e) in
    let a = fit.in_order i j iw jw apart (omega arith) in
    let b = strict.in_order j i jw iw back (omega arith) in
    let c : get_or weights j 0 * (2 * get_or seats i 0 + 1) ≤ get_or weights j 0 * (2 * get_or others i 0 - 1)
    = mul-le-mul_left (get_or weights j 0) (omega arith) in
    let d : get_or weights i 0 * (2 * get_or others j 0 + 1) ≤ get_or weights i 0 * (2 * get_or seats j 0 - 1)
    = mul-le-mul_left (get_or weights i 0) (omega arith) in
    omega (arith, a, b, c, d)

pub only_fit : (weights : List ℕ) (house : ℕ) (seats others : List ℕ) →
    IsStrictFit weights house seats → IsFit weights house others → others ≡ seats
only_fit weights house seats others strict fit =
    let long : length others ≡ length seats = fit.one_each ∙ sym strict.one_each in
    let sums : sum others ≡ sum seats = fit.add_up ∙ sym strict.add_up in
    ext_get_or 0 others seats long (λ k within.
    let kw : k < length weights = omega (arith, fit.one_each) in
    elim (cases_order (get_or others k 0) (get_or seats k 0)) [
      | inl same ↦ same
      | inr (inl fewer) ↦
          let below : (i : ℕ) → i < length seats → get_or others i 0 ≤ get_or seats i 0
          = λ i iw. elim (cases_lt (get_or seats i 0) (get_or others i 0)) [
            | inl up ↦ absurd (no_exchange weights seats others house strict fit i k (omega (arith, strict.one_each)) kw up fewer)
            | inr le ↦ le
          ] in
          ap (λ xs. get_or xs k 0) (same-from_sum seats others long below (le_of_eq (sym sums)))
      | inr (inr more) ↦
          let below : (j : ℕ) → j < length others → get_or seats j 0 ≤ get_or others j 0
          = λ j jw. elim (cases_lt (get_or others j 0) (get_or seats j 0)) [
            | inl down ↦ absurd (no_exchange weights seats others house strict fit k j kw (omega (arith, fit.one_each)) more down)
            | inr le ↦ le
          ] in
          ap (λ xs. get_or xs k 0) (sym (same-from_sum others seats (sym long) below (le_of_eq sums)))
    ])

pub no_strict_fit : (weights : List ℕ) (house : ℕ) (seats : List ℕ) → IsTied weights house → IsStrictFit weights house seats → ⊥
no_strict_fit weights house seats tied strict =
    let same : tied.seats ≡ seats = only_fit weights house seats tied.seats strict tied.fit in
    let there : IsStrictFit weights house tied.seats = rw same strict in
    omega (arith, there.in_order tied.from tied.to tied.from_within tied.to_within tied.differ tied.seated, tied.as_much)

-- what a last seat is worth lies above half the divisor, and what a next seat is worth lies below
pub IsStrictFit-rounds : (weights : List ℕ) (house : ℕ) (shares : Apportionment) → length shares.seats ≡ length weights →
    sum shares.seats ≡ house → RoundsEach weights shares → IsStrictFit weights house shares.seats
IsStrictFit-rounds weights house shares one_each add_up rounds = record {
  one_each = one_each;
  add_up = add_up;
  in_order = λ i j iw jw differ seated.
      let below = (rounds.each j jw).below_upper in
      let above = (rounds.each i iw).above_lower seated in
      lt_by_lt_le (get_or weights j 0) (2 * get_or shares.seats j 0 + 1) shares.num (2 * shares.den)
      (get_or weights i 0) (2 * get_or shares.seats i 0 - 1) (omega arith) (omega arith) (omega arith);
}
