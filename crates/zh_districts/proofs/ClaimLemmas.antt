-- What the marks of each constituency say.
use Rattle.std.proofs.Common.{◌≡◌, ◌∙◌, ◌==◌, ◌+◌, ◌-◌, ◌<◌, ℕ, List, Bool, false, IsTrue, length, map, get_or, refl, sym, ap, subst, Result, Ok, Err, IfOk, arith}
use Rattle.std.specs.Prelude.{◌↔◌, replicate, slice_index_or}
use Rattle.std.proofs.lemmas.List.{get_or-map, get_or-replicate, length-map, length-replicate}
use Rattle.std.proofs.lemmas.Bool.Decides.{nat_tests}
use Rattle.zh_divisors.specs.Claims.{TellClaims, HasSameClaim}
use Rattle.zh_divisors.proofs.CallerLemmas.{no_strict_fit, only_fit, weak_from_strict}
use Rattle.zh_divisors.specs.Fit.{IsTied}
use Rattle.zh_districts.specs.Canton.{Canton}
use Rattle.zh_districts.specs.Claims.{IsTiedIn, IsUnseated, Tell}
use Rattle.zh_districts.specs.Seats.{persons, AreSeats}

zero_if : (n : ℕ) → IsTrue (n == 0) → n ≡ 0
zero_if n is = grind (arith, nat_tests)

if_zero : (n : ℕ) → n ≡ 0 → IsTrue (n == 0)
if_zero n is = rw is refl

each_persons_length : (canton : Canton) → length (persons canton) ≡ length canton.constituencies
each_persons_length canton = length-map canton.constituencies (λ x. x.persons)

pub told_claims : (canton : Canton) (marks : List Bool) → TellClaims (persons canton) canton.house marks → Tell (IsTiedIn canton) (length canton.constituencies) marks
told_claims canton marks told = record {
  one_each = told.one_each ∙ each_persons_length canton;
  each = λ k within.
      let same : k ≡ k + 1 - 1 = omega arith in
      subst (λ (i : ℕ). IsTrue (slice_index_or marks k false) ↔ HasSameClaim (persons canton) canton.house i) same
      (told.each k (omega (arith, within, each_persons_length canton)));
}

-- if there are seats, the constituencies that get none
pub told_unseated : (canton : Canton) (seats : List ℕ) → AreSeats canton seats → Tell (IsUnseated canton) (length canton.constituencies) (map (λ n. n == 0) seats)
told_unseated canton seats are = record {
  one_each = length-map seats (λ n. n == 0) ∙ are.one_each ∙ each_persons_length canton;
  each = λ k within.
      let same : k + 1 - 1 ≡ k = omega arith in
      let there : k < length seats = omega (arith, within, are.one_each, each_persons_length canton) in
      let is : slice_index_or (map (λ n. n == 0) seats) k false ≡ (get_or seats k 0 == 0) = get_or-map (λ n. n == 0) seats k 0 false there in (
        λ marked. (seats, are, ap (λ (i : ℕ). get_or seats i 0) same ∙ zero_if (get_or seats k 0) (subst IsTrue is marked)),
        λ it.
            let equal : it.0 ≡ seats = only_fit (persons canton) canton.house seats it.0 are (weak_from_strict (persons canton) canton.house it.0 it.1) in
            let none : get_or seats k 0 ≡ 0 = sym (ap (λ (i : ℕ). get_or seats i 0) same) ∙ ap (λ (xs : List ℕ). get_or xs (k + 1 - 1) 0) (sym equal) ∙ it.2 in
            subst IsTrue (sym is) (if_zero (get_or seats k 0) none),
      );
}

-- if the seats are tied, no constituency is marked
pub told_nowhere : (canton : Canton) (marks : List Bool) → marks ≡ replicate (length canton.constituencies) false → IsTied (persons canton) canton.house
    → Tell (IsUnseated canton) (length canton.constituencies) marks
told_nowhere canton marks none tie = record {
  one_each = ap length none ∙ length-replicate (length canton.constituencies) false;
  each = λ k within.
      let is : slice_index_or marks k false ≡ false = ap (λ (xs : List Bool). slice_index_or xs k false) none ∙ get_or-replicate (length canton.constituencies) k false false within in (
        λ told. let wrong : IsTrue false = subst IsTrue is told in absurd cc,
        λ it. absurd (no_strict_fit (persons canton) canton.house it.0 tie it.1),
      );
}

-- what follows from a result
pub if_ok : {A E : Type 0} (r : Result A E) (P Q : A → Type 0) → ((a : A) → P a → Q a) → IfOk r P → IfOk r Q
if_ok (Ok a) P Q then is = then a is
if_ok (Err e) P Q then is = tt

pub told_of : (canton : Canton) (weights : List ℕ) (house : ℕ) (marks : List Bool) → weights ≡ persons canton → house ≡ canton.house → TellClaims weights house marks
    → Tell (IsTiedIn canton) (length canton.constituencies) marks
told_of canton weights house marks weights_are house_is told =
    told_claims canton marks (subst (λ (w : List ℕ). TellClaims w canton.house marks) weights_are (subst (λ (h : ℕ). TellClaims weights h marks) house_is told))
