-- A fit with one more seat.
use Rattle.std.proofs.Common.{◌≡◌, ◌≢◌, ℕ, ◌+◌, ◌-◌, ◌*◌, ◌<◌, ◌≤◌, List, length, get_or, replicate, set, inl, inr, sym, ◌∙◌, arith}
use Rattle.std.proofs.lemmas.Bool.{cases_eq}
use Rattle.std.proofs.lemmas.Grind.{common_steps}
use Rattle.std.proofs.lemmas.List.{get_or-replicate, length-replicate, length-set, get_or-set_other, get_or-set_same}
use Rattle.std.proofs.Math.Nat.{mul-le-mul_left, le_trans}
use Rattle.zh_divisors.specs.Fit.{NextAgainstLast, IsFit}
use Rattle.zh_divisors.specs.Worth.{IsMostNext}
use Rattle.zh_divisors.proofs.SumLemmas.{sum-one_more}

-- before the first seat is given
pub IsFit-none : (weights seats : List ℕ) → seats ≡ replicate (length weights) 0 → IsFit weights 0 seats
IsFit-none weights seats none = rw none (record {
  one_each = length-replicate {A = ℕ} (length weights) 0;
  add_up = grind (arith, common_steps);
  in_order = λ i j iw jw differ seated. absurd (omega (arith, seated, get_or-replicate {A = ℕ} (length weights) i 0 0 iw));
})

-- each pair is still in order after the seat was given where the next seat is worth most
in_order-give : (weights seats : List ℕ) (house next : ℕ) → IsFit weights house seats →
    IsMostNext weights seats (length weights) next →
    (i j : ℕ) → i < length weights → j < length weights → i ≢ j →
    1 ≤ get_or (set seats next (get_or seats next 0 + 1)) i 0 →
    NextAgainstLast ◌≤◌ weights (set seats next (get_or seats next 0 + 1)) i j
in_order-give weights seats house next fit best i j iw jw differ seated =
    let more : ℕ = get_or seats next 0 + 1 in
    let within : next < length seats = omega (arith, best.within, fit.one_each) in
    let at_next : get_or (set seats next more) next 0 ≡ more = get_or-set_same seats next more 0 within in
    let others : (k : ℕ) → k ≢ next → get_or (set seats next more) k 0 ≡ get_or seats k 0
    = λ k apart. get_or-set_other seats next k more 0 apart in
    elim (cases_eq i next) [
      | inl is ↦
          let other = others j (λ e. differ (is ∙ sym e)) in
          let odd : 2 * more - 1 ≡ 2 * get_or seats next 0 + 1 = omega arith in
          rw (is, at_next, other, odd) (best.most j jw)
      | inr i_other ↦
          let before = fit.in_order i j iw jw differ (rw (← others i i_other) seated) in
          elim (cases_eq j next) [
            | inl is ↦
                let at_old = rw is at before in
                let wider : get_or weights i 0 * (2 * get_or seats next 0 + 1) ≤ get_or weights i 0 * (2 * more + 1)
                = mul-le-mul_left (get_or weights i 0) (omega arith) in
                rw (is, at_next, others i i_other) (le_trans at_old wider)
            | inr j_other ↦ rw (others i i_other, others j j_other) before
          ]
    ]

pub IsFit-give : (weights seats : List ℕ) (house next had : ℕ) → IsFit weights house seats →
    IsMostNext weights seats (length weights) next → had ≡ get_or seats next 0 →
    IsFit weights (house + 1) (set seats next (had + 1))
IsFit-give weights seats house next had fit best had_is = rw had_is (record {
  one_each = length-set seats next (get_or seats next 0 + 1) ∙ fit.one_each;
  add_up = omega (arith, sum-one_more seats next (omega (arith, best.within, fit.one_each)), fit.add_up);
  in_order = in_order-give weights seats house next fit best;
})
