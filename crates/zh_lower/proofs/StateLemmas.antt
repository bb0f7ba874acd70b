-- The states of a round.
use Rattle.std.proofs.Common.{◌≡◌, ℕ, ◌+◌, ◌*◌, ◌<◌, List, Option, Some, None, IfNone, inl, inr, refl, sym, ap, ◌∙◌, arith, add-one}
use Rattle.std.proofs.lemmas.Bool.{cases_eq, cases_lt}
use Rattle.std.proofs.Math.Nat.{mul-mod_right, mul-add-mod_self_left}
use Rattle.zh_matrices.specs.Divisors.{Divisors}
use Rattle.zh_lower.specs.Outcomes.{EndsRound, RoundGoesOn, IsNoEnd, IsReached, NoneBefore}
use Rattle.zh_matrices.specs.Question.{Question}
use Rattle.zh_matrices.specs.SeatMatrix.{IsStrict}
use Rattle.zh_lower.specs.States.{start, state, with_columns_renewed, with_rows_renewed}

-- after an even number of half-steps, the columns are next
state-columns : (q : Question) (n : ℕ) → state q (2 * n + 1) ≡ with_columns_renewed q (state q (2 * n))
state-columns q n = rw (add-one (2 * n), mul-mod_right 2 n) refl

-- after an odd number of half-steps, the rows are next
state-rows : (q : Question) (n : ℕ) → state q (2 * n + 1 + 1) ≡ with_rows_renewed q (state q (2 * n + 1))
state-rows q n = rw (add-one (2 * n + 1), mul-add-mod_self_left 2 n 1) refl

NoneBefore-more : (q : Question) (n : ℕ) → NoneBefore q n → IsNoEnd q (state q n) → NoneBefore q (n + 1)
NoneBefore-more q n before here k lt = elim (cases_eq k n) [
  | inl is ↦ rw is here
  | inr other ↦ before k (omega arith)
]

-- a round leads from one state to the second one after it
pub round-state : (q : Question) (n : ℕ) (x y : Divisors) → x ≡ state q (2 * n) → RoundGoesOn q x y → y ≡ state q (2 * (n + 1))
round-state q n x y at goes =
    let here : y ≡ state q (2 * n + 1 + 1)
    = goes.after_is ∙ ap (λ z. with_rows_renewed q (with_columns_renewed q z)) at
    ∙ ap (λ z. with_rows_renewed q z) (sym (state-columns q n)) ∙ sym (state-rows q n) in
    let twice : 2 * n + 1 + 1 ≡ 2 * (n + 1) = omega arith in
    here ∙ ap (λ k. state q k) twice

pub round-none : (q : Question) (n : ℕ) (x y : Divisors) → x ≡ state q (2 * n) → RoundGoesOn q x y → NoneBefore q (2 * n + 1) →
    NoneBefore q (2 * (n + 1) + 1)
round-none q n x y at goes before =
    let between : state q (2 * n + 1) ≡ with_columns_renewed q x
    = state-columns q n ∙ ap (λ z. with_columns_renewed q z) (sym at) in
    let one : NoneBefore q (2 * n + 1 + 1) = NoneBefore-more q (2 * n + 1) before (rw between goes.none_between) in
    let twice : 2 * n + 1 + 1 ≡ 2 * (n + 1) = omega arith in
    NoneBefore-more q (2 * (n + 1)) (rw twice at one) (rw (← round-state q n x y at goes) goes.none_after)

pub start-none : (q : Question) → IsNoEnd q (state q 0) → NoneBefore q 1
start-none q here k lt =
    let is : k ≡ 0 = omega arith in
    rw is here

-- two half-steps without an end
pub goes_on : {End : Type 0} (q : Question) (x y z : Divisors) (result : Option End) → y ≡ with_columns_renewed q x → z ≡ with_rows_renewed q y → IsNoEnd q y →
    IfNone result (IsNoEnd q z) → IfNone result (RoundGoesOn q x z)
goes_on q x y z (Some end) columns rows between after = tt
goes_on q x y z None columns rows between after = record {
  after_is = rows ∙ ap (with_rows_renewed q) columns;
  none_between = rw (← columns) between;
  none_after = after;
}

-- the search reaches its start
pub start-reached : (q : Question) (x : Divisors) → x ≡ start q → IsReached q x
start-reached q x is = record {
  half_steps = 0;
  few = omega arith;
  divisors = is;
  none_before = λ k lt. absurd (omega (arith, lt));
}

-- the search reaches the divisors at which a round ends, if the rounds before did not end
pub round-reached : (q : Question) (n : ℕ) (x y : Divisors) → n < 1000 → x ≡ state q (2 * n) → NoneBefore q (2 * n + 1) →
    EndsRound q x y → IsReached q y
round-reached q n x y few at before (inl columns) = record {
  half_steps = 2 * n + 1;
  few = omega (arith, few);
  divisors = columns ∙ ap (λ z. with_columns_renewed q z) at ∙ sym (state-columns q n);
  none_before = before;
}
round-reached q n x y few at before (inr (rows, none)) =
    let between : state q (2 * n + 1) ≡ with_columns_renewed q x
    = state-columns q n ∙ ap (λ z. with_columns_renewed q z) (sym at) in
    record {
      half_steps = 2 * n + 1 + 1;
      few = omega (arith, few);
      divisors = rows ∙ ap (λ z. with_rows_renewed q z) (sym between) ∙ sym (state-rows q n);
      none_before = NoneBefore-more q (2 * n + 1) before (rw between none);
    }

-- the search ends at only one set of divisors
pub same-end : (q : Question) (x y : Divisors) → IsReached q x → ¬ IsNoEnd q x → IsReached q y → ¬ IsNoEnd q y → y ≡ x
same-end q x y X x_ends Y y_ends = elim (cases_lt X.half_steps Y.half_steps) [
  | inl lt ↦ absurd (x_ends (rw X.divisors (Y.none_before X.half_steps lt)))
  | inr ge ↦ elim (cases_lt Y.half_steps X.half_steps) [
    | inl lt ↦ absurd (y_ends (rw Y.divisors (X.none_before Y.half_steps lt)))
    | inr le ↦
        let same : Y.half_steps ≡ X.half_steps = omega (arith, ge, le) in
        Y.divisors ∙ ap (λ n. state q n) same ∙ sym X.divisors
  ]
]

pub same-reached : (q : Question) (x y : Divisors) (s t : List ℕ) → IsReached q x → IsStrict q x s → IsReached q y → IsStrict q y t → y ≡ x
same-reached q x y s t X S Y T = same-end q x y X (λ goes. goes.none s S) Y (λ goes. goes.none t T)
