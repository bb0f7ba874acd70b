-- The divisor of a tie, found from a weight that has the same claim as another.
use Rattle.std.proofs.Common.{◌≡◌, ℕ, suc, ◌+◌, ◌-◌, ◌*◌, ◌^◌, ◌<◌, ◌≤◌, Bool, false, IsTrue, List, [], ◌∷◌, All, Any, length, get_or, sum, sym, refl, inl, inr, ⊎_elim, subst, arith}
use Rattle.std.proofs.lemmas.Bool.{cases_lt, cases_eq}
use Rattle.std.specs.Prelude.{◌⊎◌}
use Rattle.std.proofs.lemmas.List.{get_or_default, get_or_past}
use Rattle.std.proofs.lemmas.List.Elements.{All-cons}
use Rattle.std.proofs.lemmas.List.Sums.{get_or-le-sum_by}
use Rattle.std.proofs.lemmas.Nat.{mul-le}
use Rattle.std.proofs.Math.Nat.{le_of_eq, mul-le-mul_left}
use Rattle.zh_divisors.proofs.CallerLemmas.{le_by_le}
use Rattle.zh_divisors.specs.Claims.{HasSameClaim, TellClaims}
use Rattle.zh_divisors.specs.Fit.{IsTied}
use Rattle.zh_upper.specs.Halves.{AreFewHalves, IsFirstAbove}
use Rattle.zh_upper.proofs.HalfLemmas.{IsTiedAtHalf, first_above}

-- the weight whose last seat is tied is positive
seated_positive : (weights : List ℕ) (house : ℕ) (t : IsTied weights house) → Any (λ w. 0 < w) weights → 0 < get_or weights t.from 0
seated_positive weights house t (k, x, kw, is, positive) =
    let there : 0 < get_or weights k 0 = rw (← get_or_default weights k x 0 kw, is) positive in
    ⊎_elim
    (λ (same : t.from ≡ k). rw same there)
    (λ differ.
    let one : 1 * 1 ≤ get_or weights k 0 * (2 * get_or t.seats t.from 0 - 1)
    = mul-le 1 1 (get_or weights k 0) (2 * get_or t.seats t.from 0 - 1) (omega (arith, there)) (omega (arith, t.seated)) in
    ⊎_elim
    (λ some. some)
    (λ none.
    let zero_is : get_or weights t.from 0 ≡ 0 = omega (arith, none) in
    let nothing = rw zero_is at (t.fit.in_order t.from k t.from_within kw differ t.seated) in
    absurd (omega (arith, nothing, one)))
    (cases_lt 0 (get_or weights t.from 0)))
    (cases_eq t.from k)

-- the divisor of a tie, by the weight whose last seat is tied
at_from : (weights : List ℕ) (house : ℕ) (t : IsTied weights house) → Any (λ w. 0 < w) weights →
    IsTiedAtHalf weights house (get_or weights t.from 0) (2 * get_or t.seats t.from 0 - 1)
at_from weights house t positive =
    let n = get_or weights t.from 0 in
    let m = 2 * get_or t.seats t.from 0 - 1 in
    record {
      seats = t.seats;
      fit = t.fit;
      some = seated_positive weights house t positive;
      odd = omega (arith, t.seated);
      rounds = record {
        upper = λ k kw. ⊎_elim
            (λ same. rw same (mul-le-mul_left n (omega arith)))
            (λ differ. t.fit.in_order t.from k t.from_within kw (λ is. differ (sym is)) t.seated)
            (cases_eq k t.from);
        lower = λ k kw seated. ⊎_elim
            (λ same. rw same (rw t.as_much (mul-le-mul_left n (omega arith))))
            (λ differ. le_by_le n m (get_or weights t.to 0) (2 * get_or t.seats t.to 0 + 1)
            (get_or weights k 0) (2 * get_or t.seats k 0 - 1) (omega arith) (le_of_eq (sym t.as_much)) (t.fit.in_order k t.to kw t.to_within differ seated))
            (cases_eq k t.to);
      };
      from = t.from;
      to = t.to;
      from_within = t.from_within;
      to_within = t.to_within;
      seated = t.seated;
      last = refl;
      next = t.as_much;
    }

-- the divisor of a tie, by the weight whose next seat is tied
at_to : (weights : List ℕ) (house : ℕ) (t : IsTied weights house) → Any (λ w. 0 < w) weights →
    IsTiedAtHalf weights house (get_or weights t.to 0) (2 * get_or t.seats t.to 0 + 1)
unfolding at_from
at_to weights house t positive =
    let p = get_or weights t.from 0 in
    let q = 2 * get_or t.seats t.from 0 - 1 in
    let n = get_or weights t.to 0 in
    let m = 2 * get_or t.seats t.to 0 + 1 in
    let before = at_from weights house t positive in
    let product : 1 * 1 ≤ p * m = mul-le 1 1 p m (omega (arith, before.some)) (omega arith) in
    let some : 0 < n
    = ⊎_elim
    (λ (there : 0 < n). there)
    (λ none. let zero_is : n ≡ 0 = omega (arith, none) in let nothing = rw zero_is at t.as_much in absurd (omega (arith, nothing, product)))
    (cases_lt 0 n) in
    record {
      seats = t.seats;
      fit = t.fit;
      some = some;
      odd = omega arith;
      rounds = record {
        upper = λ k kw. le_by_le (get_or weights k 0) (2 * get_or t.seats k 0 + 1) p q n m before.odd (before.rounds.upper k kw) (le_of_eq (sym t.as_much));
        lower = λ k kw seated. ⊎_elim
            (λ same. rw same (mul-le-mul_left n (omega arith)))
            (λ differ. t.fit.in_order k t.to kw t.to_within differ seated)
            (cases_eq k t.to);
      };
      from = t.from;
      to = t.to;
      from_within = t.from_within;
      to_within = t.to_within;
      seated = t.seated;
      last = t.as_much;
      next = refl;
    }

-- a weight with the same claim as another is on a half under the divisor of a tie
pub record IsOnHalf (weights : List ℕ) (house k : ℕ) : Type 0 where
  pub half : ℕ
  pub within : half ≤ house
  pub tie : IsTiedAtHalf weights house (get_or weights k 0) (2 * half + 1)

pub on_half : (weights : List ℕ) (house k : ℕ) → Any (λ w. 0 < w) weights → HasSameClaim weights house k → IsOnHalf weights house k
on_half weights house k positive claim =
    let t = claim.tie in
    ⊎_elim
    (λ (is : t.from ≡ k).
    let odd : 2 * get_or t.seats t.from 0 - 1 ≡ 2 * (get_or t.seats t.from 0 - 1) + 1 = omega (arith, t.seated) in
    let tie : IsTiedAtHalf weights house (get_or weights t.from 0) (2 * (get_or t.seats t.from 0 - 1) + 1)
    = subst (λ (m : ℕ). IsTiedAtHalf weights house (get_or weights t.from 0) m) odd (at_from weights house t positive) in
    let most : get_or t.seats t.from 0 ≤ sum t.seats = get_or-le-sum_by (λ x. x) t.seats t.from 0 (omega (arith, t.from_within, t.fit.one_each)) in
    record {
      half = get_or t.seats t.from 0 - 1;
      within = omega (arith, most, t.fit.add_up);
      tie = subst (λ (i : ℕ). IsTiedAtHalf weights house (get_or weights i 0) (2 * (get_or t.seats t.from 0 - 1) + 1)) is tie;
    })
    (λ (is : t.to ≡ k).
    let most : get_or t.seats t.to 0 ≤ sum t.seats = get_or-le-sum_by (λ x. x) t.seats t.to 0 (omega (arith, t.to_within, t.fit.one_each)) in
    record {
      half = get_or t.seats t.to 0;
      within = omega (arith, most, t.fit.add_up);
      tie = subst (λ (i : ℕ). IsTiedAtHalf weights house (get_or weights i 0) (2 * get_or t.seats t.to 0 + 1)) is (at_to weights house t positive);
    })
    claim.side

-- the weight that is marked first is such a weight
pub record IsMarked (weights : List ℕ) (house one : ℕ) : Type 0 where
  pub within : one < length weights
  pub half : IsOnHalf weights house one

pub marked : (weights others : List ℕ) (house : ℕ) (claims marks : List Bool) (one : ℕ) → others ≡ weights → marks ≡ claims →
    TellClaims others house claims → IsTied weights house → Any (λ w. 0 < w) weights →
    ((k : ℕ) → IsTrue (get_or marks k false) → IsTrue (get_or marks one false)) → IsMarked weights house one
marked weights others house claims marks one same told_is told t positive first =
    let here : TellClaims weights house marks
    = subst (λ (m : List Bool). TellClaims weights house m) (sym told_is) (subst (λ (w : List ℕ). TellClaims w house claims) same told) in
    let there : IsTrue (get_or marks t.from false) = (here.each t.from t.from_within).1 (record { tie = t; side = inl refl }) in
    let is : IsTrue (get_or marks one false) = first t.from there in
    let within : one < length weights
    = ⊎_elim
    (λ (less : one < length weights). less)
    (λ past. let none : get_or marks one false ≡ false = get_or_past marks one false (omega (arith, past, here.one_each)) in absurd (cc))
    (cases_lt one (length weights)) in
    record { within = within; half = on_half weights house one positive ((here.each one within).0 is) }

-- the divisor that puts this weight on the first half with too many seats is the divisor of the tie
pub at_divisor : (weights : List ℕ) (house one n m : ℕ) → IsMarked weights house one → n ≡ get_or weights one 0 →
    ((h : ℕ) → IsFirstAbove weights house (get_or weights one 0) h → m ≡ 2 * h + 1) → IsTiedAtHalf weights house n m
at_divisor weights house one n m is weight odd =
    let half = is.half in
    let m_is : m ≡ 2 * half.half + 1 = odd half.half (first_above weights house (get_or weights one 0) half.half half.tie half.within) in
    subst (λ (x : ℕ). IsTiedAtHalf weights house x m) (sym weight)
    (subst (λ (x : ℕ). IsTiedAtHalf weights house (get_or weights one 0) x) (sym m_is) half.tie)

pub few_halves : (weights : List ℕ) (house one n m : ℕ) → IsMarked weights house one → All (λ w. w ≤ 10 ^ 14) weights → house ≤ 400 →
    n ≡ get_or weights one 0 → ((h : ℕ) → IsFirstAbove weights house (get_or weights one 0) h → m ≡ 2 * h + 1) → AreFewHalves n m
few_halves weights house one n m is small most weight odd =
    let half = is.half in
    let m_is : m ≡ 2 * half.half + 1 = odd half.half (first_above weights house (get_or weights one 0) half.half half.tie half.within) in
    record {
      some = omega (arith, weight, half.tie.some);
      small = omega (arith, weight, small one 0 is.within);
      few = omega (arith, m_is, half.within, most);
    }

-- some number is not 0, or all numbers are 0
some_or_none : (xs : List ℕ) → Any (λ v. 0 < v) xs ⊎ All (λ v. v ≡ 0) xs
some_or_none [] = inr (λ k d lt. absurd (omega (arith, lt)))
some_or_none (x ∷ xs) =
    ⊎_elim
    (λ some. inl (0, x, omega arith, refl, some))
    (λ none. elim (some_or_none xs) [
      | inl a ↦ inl (suc a.0, a.1, omega (arith, a.2), a.3, a.4)
      | inr all ↦ inr (All-cons (λ (v : ℕ). v ≡ 0) x xs (omega (arith, none)) all)
    ])
    (cases_lt 0 x)

pub some_positive : (xs : List ℕ) → ¬ All (λ v. v ≡ 0) xs → Any (λ v. 0 < v) xs
some_positive xs not = elim (some_or_none xs) [ inl some ↦ some | inr all ↦ absurd (not all) ]
