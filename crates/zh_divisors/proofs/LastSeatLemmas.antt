-- What the least last seat and the greatest next seat say about all seats.
use Rattle.std.proofs.Common.{◌≡◌, ◌≢◌, ℕ, ◌+◌, ◌-◌, ◌*◌, ◌<◌, ◌≤◌, List, Any, length, get_or, inl, inr, arith}
use Rattle.std.proofs.lemmas.Bool.{cases_lt, cases_eq}
use Rattle.std.proofs.lemmas.List.{get_or_default}
use Rattle.std.proofs.lemmas.Nat.{mul-le}
use Rattle.std.proofs.Math.Nat.{le_antisymm, mul-lt-mul_of_pos_left}
use Rattle.zh_divisors.specs.Fit.{IsFit, IsStrictFit, IsTied}
use Rattle.zh_divisors.specs.Rounding.{Rounds}
use Rattle.zh_divisors.specs.Shares.{Apportionment, RoundsEach}
use Rattle.zh_divisors.specs.Worth.{IsLeastLast, IsMostNext}
use Rattle.zh_divisors.proofs.RatioLemmas.{above_sum, below_sum, lt_by_le_lt, lt_by_lt_le}

-- the least last seat is worth more than the greatest next seat
pub record AreApart (weights seats : List ℕ) (last next : ℕ) : Type 0 where
  pub last_is : IsLeastLast weights seats (length weights) last
  pub next_is : IsMostNext weights seats (length weights) next
  pub apart : get_or weights next 0 * (2 * get_or seats last 0 - 1) < get_or weights last 0 * (2 * get_or seats next 0 + 1)

-- then each last seat is worth more than the greatest next seat
each_last : (weights seats : List ℕ) (last next : ℕ) → AreApart weights seats last next →
    (k : ℕ) → k < length weights → 1 ≤ get_or seats k 0 →
    get_or weights next 0 * (2 * get_or seats k 0 - 1) < get_or weights k 0 * (2 * get_or seats next 0 + 1)
each_last weights seats last next ends k within seated =
    lt_by_lt_le (get_or weights next 0) (2 * get_or seats next 0 + 1) (get_or weights last 0) (2 * get_or seats last 0 - 1)
    (get_or weights k 0) (2 * get_or seats k 0 - 1) (omega arith) ends.apart (ends.last_is.least k within seated)

-- and each next seat is worth less than the least last seat
each_next : (weights seats : List ℕ) (last next : ℕ) → AreApart weights seats last next →
    (k : ℕ) → k < length weights →
    get_or weights k 0 * (2 * get_or seats last 0 - 1) < get_or weights last 0 * (2 * get_or seats k 0 + 1)
each_next weights seats last next ends k within =
    lt_by_le_lt (get_or weights k 0) (2 * get_or seats k 0 + 1) (get_or weights next 0) (2 * get_or seats next 0 + 1)
    (get_or weights last 0) (2 * get_or seats last 0 - 1) (omega arith) (ends.next_is.most k within) ends.apart

pub IsStrictFit-apart : (weights seats : List ℕ) (house last next : ℕ) → IsFit weights house seats →
    AreApart weights seats last next → IsStrictFit weights house seats
IsStrictFit-apart weights seats house last next fit ends = record {
  one_each = fit.one_each;
  add_up = fit.add_up;
  in_order = λ i j iw jw differ seated.
      lt_by_le_lt (get_or weights j 0) (2 * get_or seats j 0 + 1) (get_or weights next 0) (2 * get_or seats next 0 + 1)
      (get_or weights i 0) (2 * get_or seats i 0 - 1) (omega arith) (ends.next_is.most j jw)
      (each_last weights seats last next ends i iw seated);
}

-- each weight over the divisor of the result rounds to its seats
each_rounds : (weights seats : List ℕ) (last next : ℕ) → AreApart weights seats last next →
    (k : ℕ) → k < length weights →
    Rounds (get_or weights k 0 * (get_or seats last 0 + get_or seats next 0)) (get_or weights last 0 + get_or weights next 0) (get_or seats k 0)
each_rounds weights seats last next ends k within =
    let some = ends.last_is.seated in
    let halves : (2 * get_or seats last 0 - 1) + (2 * get_or seats next 0 + 1) ≡ 2 * (get_or seats last 0 + get_or seats next 0) = omega arith in
    record {
      below_upper = below_sum (get_or weights k 0) _ _ _ (2 * get_or seats k 0 + 1) _ _ halves
          (each_next weights seats last next ends k within) (ends.next_is.most k within);
      above_lower = λ seated. above_sum (get_or weights k 0) _ _ _ (2 * get_or seats k 0 - 1) _ _ halves
          (ends.last_is.least k within seated) (each_last weights seats last next ends k within seated);
    }

pub RoundsEach-apart : (weights : List ℕ) (shares : Apportionment) (last next : ℕ) → AreApart weights shares.seats last next →
    shares.num ≡ get_or weights last 0 + get_or weights next 0 →
    shares.den ≡ get_or shares.seats last 0 + get_or shares.seats next 0 → RoundsEach weights shares
RoundsEach-apart weights shares last next ends num_is den_is = record {
  num_positive = rw num_is (elim (cases_lt 0 (get_or weights last 0)) [
    | inl some ↦ omega arith
    | inr none ↦
        let zero_is : get_or weights last 0 ≡ 0 = omega arith in
        let nothing = rw zero_is at ends.apart in
        absurd (omega arith)
  ]);
  den_positive = omega (arith, den_is, ends.last_is.seated);
  each = λ k within. rw (num_is, den_is) (each_rounds weights shares.seats last next ends k within);
}

-- a weight that has a seat is positive
pub positive_seated : (weights seats : List ℕ) (house i : ℕ) → IsFit weights house seats → Any (λ w. 0 < w) weights →
    i < length weights → 1 ≤ get_or seats i 0 → 0 < get_or weights i 0
positive_seated weights seats house i fit (k, x, kw, is, positive) within seated =
    let there : 0 < get_or weights k 0 = rw (← get_or_default weights k x 0 kw, is) positive in
    elim (cases_eq i k) [
      | inl same ↦ rw same there
      | inr differ ↦
          let one : 1 * 1 ≤ get_or weights k 0 * (2 * get_or seats i 0 - 1)
          = mul-le 1 1 (get_or weights k 0) (2 * get_or seats i 0 - 1) (omega arith) (omega arith) in
          elim (cases_lt 0 (get_or weights i 0)) [
            | inl less ↦ less
            | inr none ↦
                let zero_is : get_or weights i 0 ≡ 0 = omega arith in
                let nothing = rw zero_is at (fit.in_order i k within kw differ seated) in
                absurd (omega arith)
          ]
    ]

-- otherwise the seats are tied
abbrev pub IsTied-together : (weights seats : List ℕ) (house last next : ℕ) → IsFit weights house seats → Any (λ w. 0 < w) weights →
    IsLeastLast weights seats (length weights) last → IsMostNext weights seats (length weights) next →
    get_or weights last 0 * (2 * get_or seats next 0 + 1) ≤ get_or weights next 0 * (2 * get_or seats last 0 - 1) →
    IsTied weights house
IsTied-together weights seats house last next fit some last_is next_is together =
    let positive = positive_seated weights seats house last fit some last_is.within last_is.seated in
    let differ : last ≢ next = λ same.
    let at_last : get_or weights last 0 * (2 * get_or seats last 0 + 1) ≤ get_or weights last 0 * (2 * get_or seats last 0 - 1) = rw (← same) at together in
    let less : get_or weights last 0 * (2 * get_or seats last 0 - 1) < get_or weights last 0 * (2 * get_or seats last 0 + 1)
    = mul-lt-mul_of_pos_left (omega arith) positive in
    omega arith in
    record {
      seats = seats;
      fit = fit;
      from = last;
      to = next;
      from_within = last_is.within;
      to_within = next_is.within;
      differ = differ;
      seated = last_is.seated;
      as_much = le_antisymm (fit.in_order last next last_is.within next_is.within differ last_is.seated) together;
    }
