-- The seats of a line after one more was given.
use Rattle.std.proofs.Common.{◌≡◌, ◌≢◌, ℕ, zero, suc, ◌+◌, ◌-◌, ◌*◌, ◌<◌, ◌≤◌, List, Any, length, get_or, set, inl, inr, refl, arith, below_more}
use Rattle.std.proofs.lemmas.Bool.{cases_eq, cases_lt}
use Rattle.std.proofs.lemmas.List.{length-set, get_or-set_other, get_or-set_same, get_or_default}
use Rattle.std.proofs.lemmas.Nat.{mul-le}
use Rattle.std.proofs.Math.Nat.{mul-le-mul_left, le_refl, le_trans}
use Rattle.zh_divisors.specs.Sums.{sum_to}
use Rattle.zh_divisors.proofs.FiniteSumLemmas.{sum_to-ext, term-le-sum_to}
use Rattle.zh_divisors.specs.Line.{IsMatrixLine}
use Rattle.zh_divisors.specs.LineSeats.{AreGiven, IsLastCell, IsNextCell, next_signpost, last_signpost}
use Rattle.zh_divisors.proofs.RatioLemmas.{le_by_le}

pub positive_other : (votes others : List ℕ) (k : ℕ) → IsMatrixLine votes others → k < length votes → 1 ≤ get_or others k 0
positive_other votes others k line kw = line.each_positive k 0 (omega (arith, line.same_length))

-- signposts are positive
pub positive_next : (votes others seats : List ℕ) (k : ℕ) → IsMatrixLine votes others → k < length votes → 1 ≤ next_signpost others seats k
positive_next votes others seats k line kw =
    mul-le 1 1 (get_or others k 0) (2 * get_or seats k 0 + 1) (positive_other votes others k line kw) (omega arith)

pub positive_last : (votes others seats : List ℕ) (k : ℕ) → IsMatrixLine votes others → k < length votes → 1 ≤ get_or seats k 0 →
    1 ≤ last_signpost others seats k
positive_last votes others seats k line kw seated =
    mul-le 1 1 (get_or others k 0) (2 * get_or seats k 0 - 1) (positive_other votes others k line kw) (omega arith)

pub IsNextCell-keep : (votes others seats : List ℕ) (n j : ℕ) → IsNextCell votes others seats n j →
    get_or votes n 0 * next_signpost others seats j ≤ get_or votes j 0 * next_signpost others seats n →
    IsNextCell votes others seats (n + 1) j
IsNextCell-keep votes others seats n j so_far less = record {
  within = omega (arith, so_far.within);
  most = below_more _ _ so_far.most less;
}

pub IsNextCell-take : (votes others seats : List ℕ) (n j : ℕ) → IsMatrixLine votes others → n ≤ length votes →
    IsNextCell votes others seats n j →
    get_or votes j 0 * next_signpost others seats n < get_or votes n 0 * next_signpost others seats j →
    IsNextCell votes others seats (n + 1) n
IsNextCell-take votes others seats n j line within so_far more = record {
  within = omega arith;
  most = below_more _ _ (λ k lt. le_by_le (get_or votes k 0) (next_signpost others seats k) (get_or votes j 0) (next_signpost others seats j)
      (get_or votes n 0) (next_signpost others seats n) (positive_next votes others seats j line (omega (arith, so_far.within))) (so_far.most k lt) (omega arith)) (le_refl _);
}

-- one more seat at one cell
pub sum_to-one_more : (n : ℕ) (xs : List ℕ) (i : ℕ) → i < n → n ≤ length xs →
    sum_to n (λ k. get_or (set xs i (get_or xs i 0 + 1)) k 0) ≡ sum_to n (λ k. get_or xs k 0) + 1
sum_to-one_more zero xs i lt room = absurd (omega arith)
sum_to-one_more (suc n) xs i lt room =
    elim (cases_eq i n) [
      | inl is ↦
          let here : get_or (set xs i (get_or xs i 0 + 1)) n 0 ≡ get_or xs n 0 + 1
          = rw is (get_or-set_same xs n (get_or xs n 0 + 1) 0 (omega arith)) in
          let below : sum_to n (λ k. get_or (set xs i (get_or xs i 0 + 1)) k 0) ≡ sum_to n (λ k. get_or xs k 0)
          = sum_to-ext n _ _ (λ k kn. get_or-set_other xs i k (get_or xs i 0 + 1) 0 (omega arith)) in
          omega (arith, here, below)
      | inr other ↦
          let here : get_or (set xs i (get_or xs i 0 + 1)) n 0 ≡ get_or xs n 0
          = get_or-set_other xs i n (get_or xs i 0 + 1) 0 (omega arith) in
          omega (arith, here, sum_to-one_more n xs i (omega arith) (omega arith))
    ]

-- the cell whose next seat is worth most has votes
pub positive_most : (votes others seats : List ℕ) (j : ℕ) → IsMatrixLine votes others → Any (λ v. 0 < v) votes →
    IsNextCell votes others seats (length votes) j → 1 ≤ get_or votes j 0
positive_most votes others seats j line (k, x, kw, is, positive) best =
    let there : 0 < get_or votes k 0 = rw (← get_or_default votes k x 0 kw, is) positive in
    let one : 1 * 1 ≤ get_or votes k 0 * next_signpost others seats j
    = mul-le 1 1 (get_or votes k 0) (next_signpost others seats j) there (positive_next votes others seats j line best.within) in
    elim (cases_lt 0 (get_or votes j 0)) [
      | inl some ↦ some
      | inr none ↦
          let zero_is : get_or votes j 0 ≡ 0 = omega arith in
          let nothing = rw zero_is at (best.most k kw) in
          absurd (omega arith)
    ]

-- the signpost of its last seat is what the signpost of its next seat was before
last_is : (others seats : List ℕ) (next : ℕ) → next < length seats →
    last_signpost others (set seats next (get_or seats next 0 + 1)) next ≡ next_signpost others seats next
last_is others seats next within =
    let odd : 2 * (get_or seats next 0 + 1) - 1 ≡ 2 * get_or seats next 0 + 1 = omega arith in
    rw (get_or-set_same seats next (get_or seats next 0 + 1) 0 within, odd) refl

-- elsewhere nothing changes
same_at : (seats : List ℕ) (next k : ℕ) → k ≢ next → get_or (set seats next (get_or seats next 0 + 1)) k 0 ≡ get_or seats k 0
same_at seats next k apart = get_or-set_other seats next k (get_or seats next 0 + 1) 0 apart

-- the signposts of next seats do not become less
grown : (others seats : List ℕ) (next k : ℕ) → next < length seats →
    next_signpost others seats k ≤ next_signpost others (set seats next (get_or seats next 0 + 1)) k
grown others seats next k within =
    elim (cases_eq k next) [
      | inl is ↦ rw (is, get_or-set_same seats next (get_or seats next 0 + 1) 0 within) (mul-le-mul_left (get_or others next 0) (omega arith))
      | inr apart ↦ rw (same_at seats next k apart) (le_refl _)
    ]

-- each pair is still in order after the seat was given where the next seat is worth most
in_order-give : (votes others seats : List ℕ) (given next : ℕ) → AreGiven votes others seats given →
    IsNextCell votes others seats (length votes) next →
    (i j : ℕ) → i < length votes → j < length votes →
    1 ≤ get_or (set seats next (get_or seats next 0 + 1)) i 0 →
    get_or votes j 0 * last_signpost others (set seats next (get_or seats next 0 + 1)) i
    ≤ get_or votes i 0 * next_signpost others (set seats next (get_or seats next 0 + 1)) j
in_order-give votes others seats given next fit best i j iw jw seated =
    let within : next < length seats = omega (arith, best.within, fit.room) in
    let grows = mul-le-mul_left (get_or votes i 0) (grown others seats next j within) in
    elim (cases_eq i next) [
      | inl is ↦
          let last : last_signpost others (set seats next (get_or seats next 0 + 1)) i ≡ next_signpost others seats next
          = rw is (last_is others seats next within) in
          let before : get_or votes j 0 * next_signpost others seats next ≤ get_or votes i 0 * next_signpost others seats j
          = rw is (best.most j jw) in
          rw last (le_trans before grows)
      | inr other ↦
          let same = same_at seats next i other in
          rw same (le_trans (fit.in_order i j iw jw (rw (← same) seated)) grows)
    ]

pub AreGiven-give : (votes others seats : List ℕ) (given next had : ℕ) → AreGiven votes others seats given →
    IsNextCell votes others seats (length votes) next → had ≡ get_or seats next 0 →
    AreGiven votes others (set seats next (had + 1)) (given + 1)
AreGiven-give votes others seats given next had fit best had_is = rw had_is (record {
  room = omega (arith, length-set seats next (get_or seats next 0 + 1), fit.room);
  add_up = omega (arith, sum_to-one_more (length votes) seats next best.within fit.room, fit.add_up);
  in_order = in_order-give votes others seats given next fit best;
})

pub IsLastCell-give : (votes others seats : List ℕ) (given next had : ℕ) → IsMatrixLine votes others → AreGiven votes others seats given →
    IsNextCell votes others seats (length votes) next → had ≡ get_or seats next 0 →
    IsLastCell votes others (set seats next (had + 1)) next
IsLastCell-give votes others seats given next had line fit best had_is =
    let within : next < length seats = omega (arith, best.within, fit.room) in
    let there = get_or-set_same seats next (get_or seats next 0 + 1) 0 within in
    rw had_is (record {
      within = best.within;
      seated = omega (arith, there);
      positive = positive_most votes others seats next line line.some_vote best;
      least = λ k kw seated. elim (cases_eq k next) [
        | inl is ↦ rw is (le_refl _)
        | inr other ↦
            let same = same_at seats next k other in
            rw (same, last_is others seats next within) (fit.in_order k next kw best.within (rw (← same) seated))
      ];
    })

-- no cell has more seats than were given
pub each-le-given : (votes others seats : List ℕ) (given k : ℕ) → AreGiven votes others seats given → k < length votes →
    get_or seats k 0 ≤ given
each-le-given votes others seats given k fit kw =
    omega (arith, term-le-sum_to (length votes) (λ i. get_or seats i 0) k kw, fit.add_up)

-- before the first seat is given
pub AreGiven-none : (votes others seats : List ℕ) → length votes ≤ length seats → sum_to (length votes) (λ k. get_or seats k 0) ≡ 0 →
    AreGiven votes others seats 0
AreGiven-none votes others seats room empty = record {
  room = room;
  add_up = empty;
  in_order = λ i j iw jw seated. absurd (omega (arith, term-le-sum_to (length votes) (λ k. get_or seats k 0) i iw));
}
