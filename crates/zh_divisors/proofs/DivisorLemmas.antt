-- A strict fit has a divisor.
use Rattle.std.proofs.Common.{◌≡◌, ℕ, zero, suc, ◌+◌, ◌-◌, ◌*◌, ◌<◌, ◌≤◌, ◌⊎◌, List, Any, length, get_or, inl, inr, refl, arith, add-one, below_more}
use Rattle.std.proofs.lemmas.Bool.{cases_lt, cases_eq}
use Rattle.std.proofs.Math.Nat.{mul-lt-mul_of_pos_left, le_of_lt}
use Rattle.zh_divisors.specs.Fit.{IsFit, IsStrictFit}
use Rattle.zh_divisors.specs.Shares.{Apportionment, RoundsEach}
use Rattle.zh_divisors.specs.Worth.{IsLeastLast, IsMostNext}
use Rattle.zh_divisors.proofs.LastSeatLemmas.{AreApart, RoundsEach-apart, positive_seated}
use Rattle.zh_divisors.proofs.SumLemmas.{sum-zeros}
use Rattle.zh_divisors.proofs.WorthLemmas.{IsMostNext-first, IsMostNext-keep, IsMostNext-take, IsLeastLast-keep, IsLeastLast-seat, IsLeastLast-take}

-- among the first n + 1 weights there is a next seat that is worth most
most_next : (weights seats : List ℕ) (n : ℕ) → (j : ℕ) × IsMostNext weights seats (n + 1) j
most_next weights seats zero = (0, IsMostNext-first weights seats)
most_next weights seats (suc n) =
    let before = most_next weights seats n in
    let j = before.0 in
    elim (cases_lt (get_or weights j 0 * (2 * get_or seats (n + 1) 0 + 1)) (get_or weights (n + 1) 0 * (2 * get_or seats j 0 + 1))) [
      | inl more ↦ (n + 1, rw (← add-one n) (IsMostNext-take weights seats (n + 1) j before.1 more))
      | inr less ↦ (j, rw (← add-one n) (IsMostNext-keep weights seats (n + 1) j before.1 less))
    ]

-- among the first n weights there is a last seat that is worth least, or no weight has a seat
least_last : (weights seats : List ℕ) (n : ℕ) →
    ((k : ℕ) → k < n → get_or seats k 0 ≡ 0) ⊎ ((i : ℕ) × IsLeastLast weights seats n i)
least_last weights seats zero = inl (λ k lt. absurd (omega arith))
least_last weights seats (suc n) = rw (← add-one n) (elim (cases_lt 0 (get_or seats n 0)) [
  | inr none ↦ elim (least_last weights seats n) [
    | inl empty ↦ inl (below_more _ _ empty (omega arith))
    | inr (i, so_far) ↦ inr (i, IsLeastLast-keep weights seats n i so_far (λ some. absurd (omega arith)))
  ]
  | inl seat ↦ elim (least_last weights seats n) [
    | inl empty ↦ inr (n, IsLeastLast-seat weights seats n seat empty)
    | inr (i, so_far) ↦
        elim (cases_lt (get_or weights n 0 * (2 * get_or seats i 0 - 1)) (get_or weights i 0 * (2 * get_or seats n 0 - 1))) [
          | inl less ↦ inr (n, IsLeastLast-take weights seats n i so_far seat less)
          | inr more ↦ inr (i, IsLeastLast-keep weights seats n i so_far (λ _. more))
        ]
  ]
])

-- the two seats lie apart, even if one weight has both
apart : (weights seats : List ℕ) (house last next : ℕ) → Any (λ w. 0 < w) weights → IsStrictFit weights house seats →
    IsLeastLast weights seats (length weights) last → IsMostNext weights seats (length weights) next →
    AreApart weights seats last next
apart weights seats house last next some strict last_is next_is =
    let fit : IsFit weights house seats = record {
      one_each = strict.one_each;
      add_up = strict.add_up;
      in_order = λ i j iw jw differ seated. le_of_lt (strict.in_order i j iw jw differ seated);
    } in
    record {
      last_is = last_is;
      next_is = next_is;
      apart = elim (cases_eq last next) [
        | inl same ↦ rw (← same) (mul-lt-mul_of_pos_left (omega arith)
            (positive_seated weights seats house last fit some last_is.within last_is.seated))
        | inr differ ↦ strict.in_order last next last_is.within next_is.within differ last_is.seated
      ];
    }

pub divisor_of : (weights : List ℕ) (house : ℕ) (seats : List ℕ) → 1 ≤ house → Any (λ w. 0 < w) weights →
    IsStrictFit weights house seats → (shares : Apportionment) × (shares.seats ≡ seats) × RoundsEach weights shares
divisor_of weights house seats one some strict =
    let all : length weights - 1 + 1 ≡ length weights = omega (arith, some.2) in
    let next = most_next weights seats (length weights - 1) in
    let next_is : IsMostNext weights seats (length weights) next.0 = rw all at next.1 in
    elim (least_last weights seats (length weights)) [
      | inl empty ↦ absurd (omega (arith, strict.add_up, sum-zeros seats (λ k lt. empty k (omega (arith, strict.one_each)))))
      | inr (last, last_is) ↦
          let shares : Apportionment = record {
            seats = seats;
            num = get_or weights last 0 + get_or weights next.0 0;
            den = get_or seats last 0 + get_or seats next.0 0;
          } in (
            shares,
            refl,
            RoundsEach-apart weights shares last next.0
                (apart weights seats house last next.0 some strict last_is next_is) refl refl,
          )
    ]
