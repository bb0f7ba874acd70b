-- One more weight in the search for the least last seat and for the greatest next seat.
use Rattle.std.proofs.Common.{◌≡◌, ℕ, ◌+◌, ◌-◌, ◌*◌, ◌<◌, ◌≤◌, List, get_or, arith, below_more}
use Rattle.std.proofs.Math.Nat.{le_refl}
use Rattle.zh_divisors.specs.Worth.{IsLeastLast, IsMostNext}
use Rattle.zh_divisors.proofs.RatioLemmas.{lt_by_le_lt, lt_by_lt_le}

pub IsMostNext-first : (weights seats : List ℕ) → IsMostNext weights seats 1 0
IsMostNext-first weights seats = record {
  within = omega arith;
  most = below_more _ _ (λ k lt. absurd (omega arith)) (le_refl _);
  first = λ k lt. absurd (omega arith);
}

pub IsMostNext-keep : (weights seats : List ℕ) (n j : ℕ) → IsMostNext weights seats n j →
    get_or weights n 0 * (2 * get_or seats j 0 + 1) ≤ get_or weights j 0 * (2 * get_or seats n 0 + 1) →
    IsMostNext weights seats (n + 1) j
IsMostNext-keep weights seats n j so_far less = record {
  within = omega (arith, so_far.within);
  most = below_more _ _ so_far.most less;
  first = so_far.first;
}

pub IsMostNext-take : (weights seats : List ℕ) (n j : ℕ) → IsMostNext weights seats n j →
    get_or weights j 0 * (2 * get_or seats n 0 + 1) < get_or weights n 0 * (2 * get_or seats j 0 + 1) →
    IsMostNext weights seats (n + 1) n
IsMostNext-take weights seats n j so_far more =
    let less : (k : ℕ) → k < n →
    get_or weights k 0 * (2 * get_or seats n 0 + 1) < get_or weights n 0 * (2 * get_or seats k 0 + 1)
    = λ k lt. lt_by_le_lt (get_or weights k 0) (2 * get_or seats k 0 + 1) (get_or weights j 0) (2 * get_or seats j 0 + 1)
    (get_or weights n 0) (2 * get_or seats n 0 + 1) (omega arith) (so_far.most k lt) more in
    record {
      within = omega arith;
      most = below_more _ _ (λ k lt. omega (arith, less k lt)) (le_refl _);
      first = less;
    }

pub IsLeastLast-keep : (weights seats : List ℕ) (n i : ℕ) → IsLeastLast weights seats n i →
    (1 ≤ get_or seats n 0 →
    get_or weights i 0 * (2 * get_or seats n 0 - 1) ≤ get_or weights n 0 * (2 * get_or seats i 0 - 1)) →
    IsLeastLast weights seats (n + 1) i
IsLeastLast-keep weights seats n i so_far more = record {
  within = omega (arith, so_far.within);
  seated = so_far.seated;
  least = below_more _ _ so_far.least more;
  first = so_far.first;
}

-- no weight before n has a seat
pub IsLeastLast-seat : (weights seats : List ℕ) (n : ℕ) → 1 ≤ get_or seats n 0 →
    ((k : ℕ) → k < n → get_or seats k 0 ≡ 0) → IsLeastLast weights seats (n + 1) n
IsLeastLast-seat weights seats n seat none = record {
  within = omega arith;
  seated = seat;
  least = below_more _ _ (λ k lt some. absurd (omega (arith, none k lt))) (λ some. le_refl _);
  first = λ k lt some. absurd (omega (arith, none k lt));
}

pub IsLeastLast-take : (weights seats : List ℕ) (n i : ℕ) → IsLeastLast weights seats n i → 1 ≤ get_or seats n 0 →
    get_or weights n 0 * (2 * get_or seats i 0 - 1) < get_or weights i 0 * (2 * get_or seats n 0 - 1) →
    IsLeastLast weights seats (n + 1) n
IsLeastLast-take weights seats n i so_far seat less =
    let fewer : (k : ℕ) → k < n → 1 ≤ get_or seats k 0 →
    get_or weights n 0 * (2 * get_or seats k 0 - 1) < get_or weights k 0 * (2 * get_or seats n 0 - 1)
    = λ k lt some. lt_by_lt_le (get_or weights n 0) (2 * get_or seats n 0 - 1) (get_or weights i 0)
    (2 * get_or seats i 0 - 1) (get_or weights k 0) (2 * get_or seats k 0 - 1) (omega arith) less (so_far.least k lt some) in
    record {
      within = omega arith;
      seated = seat;
      least = below_more _ _ (λ k lt some. omega (arith, fewer k lt some)) (λ some. le_refl _);
      first = fewer;
    }
