-- Which weights a tie is between does not depend on the fit that shows it.
use Rattle.std.proofs.Common.{◌≡◌, ◌∙◌, ℕ, ◌+◌, ◌-◌, ◌*◌, ◌<◌, ◌≤◌, List, Any, Bool, false, IsTrue, length, get_or, sum, subst, inl, inr, ⊎_elim, sym, ap, refl, arith}
use Rattle.std.specs.Prelude.{◌⊎◌, ◌↔◌, replicate, slice_index_or, slice_set}
use Rattle.std.proofs.lemmas.List.{get_or-replicate, get_or-set_other, length-replicate}
use Rattle.std.proofs.lemmas.Grind.{get_or-set_at}
use Rattle.std.proofs.Math.ListN.{length-set}
use Rattle.std.proofs.lemmas.Bool.{cases_lt, cases_eq}
use Rattle.std.proofs.Math.Nat.{le_antisymm, le_of_eq, mul-le-mul_left, le_of_mul-le-mul_left}
use Rattle.zh_divisors.specs.Claims.{HasSameClaim, TellClaims}
use Rattle.zh_divisors.specs.Fit.{IsFit, IsTied}
use Rattle.zh_divisors.specs.SameWorth.{IsWorthAsMuch}
use Rattle.zh_divisors.specs.Worth.{IsLeastLast, IsMostNext}
use Rattle.zh_divisors.proofs.LastSeatLemmas.{AreApart, IsStrictFit-apart, IsTied-together, positive_seated}
use Rattle.zh_divisors.proofs.OneFitLemmas.{no_strict_fit}
use Rattle.zh_divisors.proofs.RatioLemmas.{le_by_le}
use Rattle.zh_divisors.proofs.SumLemmas.{same-from_sum}

-- each weight over the divisor 2 n / m rounds to its seats, a half either way
record AreRounded (weights seats : List ℕ) (n m : ℕ) : Type 0 where
  some : 0 < n
  parts : 0 < m
  upper : (k : ℕ) → k < length weights → get_or weights k 0 * m ≤ n * (2 * get_or seats k 0 + 1)
  lower : (k : ℕ) → k < length weights → 1 ≤ get_or seats k 0 → n * (2 * get_or seats k 0 - 1) ≤ get_or weights k 0 * m

-- a weight times more half seats is not less
more_halves : (w a b : ℕ) → a ≤ b → w * a ≤ w * b
more_halves w a b less = mul-le-mul_left w less

-- the weights are so rounded in a tie: its divisor is twice what its last seat and its next seat are worth
tie_rounds : (weights : List ℕ) (house : ℕ) → Any (λ w. 0 < w) weights → (t : IsTied weights house) →
    AreRounded weights t.seats (get_or weights t.from 0) (2 * get_or t.seats t.from 0 - 1)
tie_rounds weights house positive t = record {
  some = positive_seated weights t.seats house t.from t.fit positive t.from_within t.seated;
  parts = omega (arith, t.seated);
  upper = λ k kw. ⊎_elim
      (λ same. rw same (more_halves (get_or weights t.from 0) _ _ (omega arith)))
      (λ differ. t.fit.in_order t.from k t.from_within kw (λ is. differ (sym is)) t.seated)
      (cases_eq k t.from);
  lower = λ k kw seated. ⊎_elim
      (λ same. rw same (rw t.as_much (more_halves (get_or weights t.from 0) _ _ (omega arith))))
      (λ differ. le_by_le (get_or weights t.from 0) (2 * get_or t.seats t.from 0 - 1) (get_or weights t.to 0) (2 * get_or t.seats t.to 0 + 1)
      (get_or weights k 0) (2 * get_or t.seats k 0 - 1) (omega arith) (le_of_eq (sym t.as_much)) (t.fit.in_order k t.to kw t.to_within differ seated))
      (cases_eq k t.to);
}

-- the divisor of one fit is at most that of another, if a weight of the first is on the half above its seats
at_most : (weights seats others : List ℕ) (n m p q e : ℕ) → length seats ≡ length weights → length others ≡ length weights → sum seats ≡ sum others
    → AreRounded weights seats n m → AreRounded weights others p q → e < length weights
    → get_or weights e 0 * q ≡ p * (2 * get_or others e 0 + 1) → p * m ≤ n * q
at_most weights seats others n m p q e size size' sums one other within half =
    ⊎_elim
    (λ less.
    let below : (k : ℕ) → k < length seats → get_or others k 0 ≤ get_or seats k 0
    = λ k lt. ⊎_elim
    (λ fewer.
    let kw : k < length weights = omega (arith, lt, size) in
    let a : p * (2 * get_or seats k 0 + 1) ≤ p * (2 * get_or others k 0 - 1) = more_halves p _ _ (omega arith) in
    let b = other.lower k kw (omega arith) in
    let c = le_by_le p q (get_or weights k 0) (2 * get_or seats k 0 + 1) n m (omega arith) (omega (arith, a, b)) (one.upper k kw) in
    absurd (omega (arith, c, less)))
    (λ no. no)
    (cases_lt (get_or seats k 0) (get_or others k 0)) in
    let same : others ≡ seats = same-from_sum seats others (size' ∙ sym size) below (le_of_eq sums) in
    let there : get_or weights e 0 * q ≡ p * (2 * get_or seats e 0 + 1) = rw (← same) half in
    le_by_le p q (get_or weights e 0) (2 * get_or seats e 0 + 1) n m (omega arith) (le_of_eq (sym there)) (one.upper e within))
    (λ no. no)
    (cases_lt (n * q) (p * m))

-- a weight that is on a half under one of two equal divisors is on a half under the other
half_moves : (w n m p q o : ℕ) → 0 < q → p * m ≡ n * q → w * q ≡ p * o → w * m ≡ n * o
half_moves w n m p q o some level half =
    let one : m * (w * q) ≡ m * (p * o) = ap (λ x. m * x) half in
    let two : o * (p * m) ≡ o * (n * q) = ap (λ x. o * x) level in
    let all : q * (w * m) ≡ q * (n * o) = omega (arith, one, two) in
    le_antisymm (le_of_mul-le-mul_left (le_of_eq all) some) (le_of_mul-le-mul_left (le_of_eq (sym all)) some)

-- so its seats are the number below the half or the number above it
half_at : (w n m s h : ℕ) → 0 < n → w * m ≡ n * (2 * h + 1) → w * m ≤ n * (2 * s + 1) → (1 ≤ s → n * (2 * s - 1) ≤ w * m)
    → (w * m ≡ n * (2 * s + 1)) ⊎ ((1 ≤ s) × (w * m ≡ n * (2 * s - 1)))
half_at w n m s h some half upper lower =
    let most : 2 * h + 1 ≤ 2 * s + 1 = le_of_mul-le-mul_left (omega (arith, half, upper)) some in
    ⊎_elim
    (λ seated.
    let least : 2 * s - 1 ≤ 2 * h + 1 = le_of_mul-le-mul_left (omega (arith, half, lower seated)) some in
    ⊎_elim
    (λ same. let is : 2 * h + 1 ≡ 2 * s + 1 = omega (arith, same) in inl (half ∙ ap (λ x. n * x) is))
    (λ differ. let is : 2 * h + 1 ≡ 2 * s - 1 = omega (arith, differ, most, least) in inr (seated, half ∙ ap (λ x. n * x) is))
    (cases_eq h s))
    (λ none. let is : 2 * h + 1 ≡ 2 * s + 1 = omega (arith, none, most) in inl (half ∙ ap (λ x. n * x) is))
    (cases_lt 0 s)

-- the divisors of two ties are equal
one_level : (weights : List ℕ) (house : ℕ) → Any (λ w. 0 < w) weights → (t u : IsTied weights house)
    → get_or weights u.from 0 * (2 * get_or t.seats t.from 0 - 1) ≤ get_or weights t.from 0 * (2 * get_or u.seats u.from 0 - 1)
one_level weights house positive t u =
    at_most weights t.seats u.seats _ _ _ _ u.to t.fit.one_each u.fit.one_each (t.fit.add_up ∙ sym u.fit.add_up)
    (tie_rounds weights house positive t) (tie_rounds weights house positive u) u.to_within u.as_much

-- if some fit shows that a weight has the same claim as another, each fit of a tie shows it
pub same_in_each : (weights : List ℕ) (house k : ℕ) → Any (λ w. 0 < w) weights → (t : IsTied weights house) → HasSameClaim weights house k
    → (k < length weights) × IsWorthAsMuch weights t.seats t.from k
same_in_each weights house k positive t claim =
    let u = claim.tie in
    let w = get_or weights k 0 in
    let n = get_or weights t.from 0 in
    let m = 2 * get_or t.seats t.from 0 - 1 in
    let p = get_or weights u.from 0 in
    let q = 2 * get_or u.seats u.from 0 - 1 in
    let rounds = tie_rounds weights house positive t in
    let level : p * m ≡ n * q = le_antisymm (one_level weights house positive t u) (one_level weights house positive u t) in
    let parts : 0 < q = omega (arith, u.seated) in
    let at : (h : ℕ) → k < length weights → w * q ≡ p * (2 * h + 1) → IsWorthAsMuch weights t.seats t.from k
    = λ h kw half. half_at w n m (get_or t.seats k 0) h rounds.some (half_moves w n m p q (2 * h + 1) parts level half) (rounds.upper k kw) (rounds.lower k kw) in
    ⊎_elim
    (λ (is : u.from ≡ k).
    let odd : 2 * (get_or u.seats u.from 0 - 1) + 1 ≡ q = omega (arith, u.seated) in
    let half : p * q ≡ p * (2 * (get_or u.seats u.from 0 - 1) + 1) = ap (λ x. p * x) (sym odd) in
    let kw : k < length weights = omega (arith, is, u.from_within) in
    (kw, at (get_or u.seats u.from 0 - 1) kw (ap (λ x. get_or weights x 0 * q) (sym is) ∙ half)))
    (λ (is : u.to ≡ k).
    let kw : k < length weights = omega (arith, is, u.to_within) in
    (kw, at (get_or u.seats u.to 0) kw (ap (λ x. get_or weights x 0 * q) (sym is) ∙ u.as_much)))
    claim.side

-- a weight to which a seat is worth as much in the fit of a tie has the same claim as another
pub claim_in_tie : (weights : List ℕ) (house k : ℕ) → Any (λ w. 0 < w) weights → (t : IsTied weights house) → k < length weights
    → IsWorthAsMuch weights t.seats t.from k → HasSameClaim weights house k
claim_in_tie weights house k positive t kw worth =
    let n = get_or weights t.from 0 in
    let some : 0 < n = positive_seated weights t.seats house t.from t.fit positive t.from_within t.seated in
    ⊎_elim
    (λ next.
    ⊎_elim
    (λ (same : k ≡ t.from). record { tie = t; side = inl (sym same) })
    (λ differ. record {
      tie = record {
        seats = t.seats;
        fit = t.fit;
        from = t.from;
        to = k;
        from_within = t.from_within;
        to_within = kw;
        differ = λ is. differ (sym is);
        seated = t.seated;
        as_much = next;
      };
      side = inr refl;
    })
    (cases_eq k t.from))
    (λ last.
    ⊎_elim
    (λ (same : k ≡ t.to). record { tie = t; side = inr (sym same) })
    (λ differ. record {
      tie = record {
        seats = t.seats;
        fit = t.fit;
        from = k;
        to = t.to;
        from_within = kw;
        to_within = t.to_within;
        differ = differ;
        seated = last.0;
        as_much = half_moves (get_or weights t.to 0) (get_or weights k 0) (2 * get_or t.seats k 0 - 1) n (2 * get_or t.seats t.from 0 - 1) (2 * get_or t.seats t.to 0 + 1)
            (omega (arith, t.seated)) (sym last.1) t.as_much;
      };
      side = inl refl;
    })
    (cases_eq k t.to))
    worth

-- the flag of a weight for the seats that were given, if they are tied
pub claim_there : (weights seats : List ℕ) (house last next k : ℕ) → IsFit weights house seats → Any (λ w. 0 < w) weights
    → IsLeastLast weights seats (length weights) last → IsMostNext weights seats (length weights) next
    → get_or weights last 0 * (2 * get_or seats next 0 + 1) ≤ get_or weights next 0 * (2 * get_or seats last 0 - 1)
    → k < length weights → IsWorthAsMuch weights seats last k ↔ HasSameClaim weights house k
claim_there weights seats house last next k fit some last_is next_is together kw =
    let t : IsTied weights house = IsTied-together weights seats house last next fit some last_is next_is together in
    (λ worth. claim_in_tie weights house k some t kw worth, λ claim. (same_in_each weights house k some t claim).1)

-- the flags for the seats that were given, if they are not tied
pub claim_nowhere : (weights seats : List ℕ) (house last next : ℕ) (claims : List Bool) → IsFit weights house seats → AreApart weights seats last next
    → claims ≡ replicate (length weights) false → TellClaims weights house claims
claim_nowhere weights seats house last next claims fit apart none = record {
  one_each = ap length none ∙ length-replicate (length weights) false;
  each = λ k kw.
      let is : slice_index_or claims k false ≡ false = ap (λ (xs : List Bool). slice_index_or xs k false) none ∙ get_or-replicate (length weights) k false false kw in (
        λ told. let wrong : IsTrue false = subst IsTrue is told in absurd cc,
        λ claim. absurd (no_strict_fit weights house seats claim.tie (IsStrictFit-apart weights seats house last next fit apart)),
      );
}

-- one more weight was looked at
pub told_more : (weights : List ℕ) (house k : ℕ) (claims : List Bool) (b : Bool) → length claims ≡ length weights → k < length weights
    → ((i : ℕ) → i < k → IsTrue (slice_index_or claims i false) ↔ HasSameClaim weights house i) → IsTrue b ↔ HasSameClaim weights house k
    → (length (slice_set claims k b) ≡ length weights)
    × ((i : ℕ) → i < k + 1 → IsTrue (slice_index_or (slice_set claims k b) i false) ↔ HasSameClaim weights house i)
told_more weights house k claims b size within before here = (
  length-set claims k b ∙ size,
  λ i low. ⊎_elim
      (λ (same : i ≡ k).
      let is : slice_index_or (slice_set claims k b) i false ≡ b = get_or-set_at claims k i b false same (omega (arith, within, size)) in
      let at : IsTrue b ↔ HasSameClaim weights house i = subst (λ (n : ℕ). IsTrue b ↔ HasSameClaim weights house n) (sym same) here in
      subst (λ (x : Bool). IsTrue x ↔ HasSameClaim weights house i) (sym is) at)
      (λ differ.
      let is : slice_index_or (slice_set claims k b) i false ≡ slice_index_or claims i false = get_or-set_other claims k i b false differ in
      subst (λ (x : Bool). IsTrue x ↔ HasSameClaim weights house i) (sym is) (before i (omega (arith, low, differ))))
      (cases_eq i k),
)

-- what was found for equal weights
pub told_all : (weights others : List ℕ) (house n : ℕ) (claims : List Bool) → others ≡ weights → length claims ≡ length others → length others ≤ n
    → ((i : ℕ) → i < n → IsTrue (slice_index_or claims i false) ↔ HasSameClaim others house i) → TellClaims weights house claims
told_all weights others house n claims same size all told = subst (λ (w : List ℕ). TellClaims w house claims) same
    (record { one_each = size; each = λ k kw. told k (omega (arith, kw, all)) })
