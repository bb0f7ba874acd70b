-- What the seats that were given say about the totals of the line.
use Rattle.std.proofs.Common.{◌≡◌, ℕ, zero, suc, ◌+◌, ◌-◌, ◌*◌, ◌<◌, ◌≤◌, List, length, get_or, arith}
use Rattle.std.proofs.lemmas.Nat.{mul-le}
use Rattle.zh_divisors.specs.Sums.{sum_to}
use Rattle.zh_divisors.specs.Line.{IsMatrixLine, half_up, half_down}
use Rattle.zh_divisors.specs.LineSeats.{AreGiven, IsLastCell, IsNextCell, next_signpost, last_signpost}
use Rattle.zh_divisors.proofs.FiniteSumLemmas.{half_up-at_most, half_up-at_least, half_down-at_most, half_down-at_least, sum_to-le, sum_to-lt}
use Rattle.zh_divisors.proofs.RatioLemmas.{lt_by_le_lt, lt_by_lt_le, le_by_le}
use Rattle.zh_divisors.proofs.LineSeatsLemmas.{positive_next, positive_last}

-- the quotient of a cell's votes, times the unit, over the product of its divisors, rounded: D is compared with the votes over a
-- signpost
cell_up-at_most : (v o D unit s : ℕ) → 0 < o * D → v * (2 * unit) < D * (o * (2 * s + 1)) → half_up (v * unit) (o * D) ≤ s
cell_up-at_most v o D unit s pos h = half_up-at_most (v * unit) (o * D) s pos (omega arith)

cell_up-at_least : (v o D unit s : ℕ) → 0 < o * D → (1 ≤ s → D * (o * (2 * s - 1)) ≤ v * (2 * unit)) → s ≤ half_up (v * unit) (o * D)
cell_up-at_least v o D unit zero pos h = omega arith
cell_up-at_least v o D unit (suc s) pos h =
    let odd : 2 * suc s - 1 ≡ 2 * s + 1 = omega arith in
    let there : D * (o * (2 * s + 1)) ≤ v * (2 * unit) = rw odd at (h (omega arith)) in
    omega (arith, half_up-at_least (v * unit) (o * D) s pos (omega arith))

cell_down-at_most : (v o D unit s : ℕ) → 0 < o * D → v * (2 * unit) ≤ D * (o * (2 * s + 1)) → half_down (v * unit) (o * D) ≤ s
cell_down-at_most v o D unit s pos h = half_down-at_most (v * unit) (o * D) s pos (omega arith)

cell_down-at_least : (v o D unit s : ℕ) → 0 < o * D → (1 ≤ s → D * (o * (2 * s - 1)) < v * (2 * unit)) → s ≤ half_down (v * unit) (o * D)
cell_down-at_least v o D unit zero pos h = omega arith
cell_down-at_least v o D unit (suc s) pos h =
    let odd : 2 * suc s - 1 ≡ 2 * s + 1 = omega arith in
    let there : D * (o * (2 * s + 1)) < v * (2 * unit) = rw odd at (h (omega arith)) in
    omega (arith, half_down-at_least (v * unit) (o * D) s pos (omega arith))

positive_product : (votes others : List ℕ) (D k : ℕ) → IsMatrixLine votes others → 1 ≤ D → k < length votes → 0 < get_or others k 0 * D
positive_product votes others D k line one kw =
    mul-le 1 1 (get_or others k 0) D (line.each_positive k 0 (omega (arith, line.same_length))) one

-- if D is above what the best next seat is worth, rounding half up gives at most the seats
pub up_few : (votes others seats : List ℕ) (given j unit D : ℕ) → IsMatrixLine votes others → AreGiven votes others seats given →
    IsNextCell votes others seats (length votes) j → 1 ≤ D → get_or votes j 0 * (2 * unit) < D * next_signpost others seats j →
    sum_to (length votes) (λ i. half_up (get_or votes i 0 * unit) (get_or others i 0 * D)) ≤ given
up_few votes others seats given j unit D line fit best one above =
    let each : (k : ℕ) → k < length votes → half_up (get_or votes k 0 * unit) (get_or others k 0 * D) ≤ get_or seats k 0
    = λ k kw. cell_up-at_most (get_or votes k 0) (get_or others k 0) D unit (get_or seats k 0) (positive_product votes others D k line one kw)
    (lt_by_le_lt (get_or votes k 0) (next_signpost others seats k) (get_or votes j 0) (next_signpost others seats j) D (2 * unit)
    (positive_next votes others seats k line kw) (best.most k kw) above) in
    omega (arith, sum_to-le (length votes) _ _ each, fit.add_up)

-- if D is at or below that, rounding half up gives more than the seats
pub up_many : (votes others seats : List ℕ) (given j unit D : ℕ) → IsMatrixLine votes others → AreGiven votes others seats given →
    IsNextCell votes others seats (length votes) j → 1 ≤ D → D * next_signpost others seats j ≤ get_or votes j 0 * (2 * unit) →
    given < sum_to (length votes) (λ i. half_up (get_or votes i 0 * unit) (get_or others i 0 * D))
up_many votes others seats given j unit D line fit best one below =
    let jw = best.within in
    let each : (k : ℕ) → k < length votes → get_or seats k 0 ≤ half_up (get_or votes k 0 * unit) (get_or others k 0 * D)
    = λ k kw. cell_up-at_least (get_or votes k 0) (get_or others k 0) D unit (get_or seats k 0) (positive_product votes others D k line one kw)
    (λ seated. le_by_le D (2 * unit) (get_or votes j 0) (next_signpost others seats j) (get_or votes k 0) (last_signpost others seats k)
    (positive_next votes others seats j line jw) below (fit.in_order k j kw jw seated)) in
    let more : get_or seats j 0 < half_up (get_or votes j 0 * unit) (get_or others j 0 * D)
    = half_up-at_least (get_or votes j 0 * unit) (get_or others j 0 * D) (get_or seats j 0) (positive_product votes others D j line one jw) (omega arith) in
    omega (arith, sum_to-lt (length votes) (λ k. get_or seats k 0) _ j each jw more, fit.add_up)

-- if D is below what the least last seat is worth, rounding half down gives at least the seats
pub down_many : (votes others seats : List ℕ) (given i unit D : ℕ) → IsMatrixLine votes others → AreGiven votes others seats given →
    IsLastCell votes others seats i → 1 ≤ D → D * last_signpost others seats i < get_or votes i 0 * (2 * unit) →
    given ≤ sum_to (length votes) (λ k. half_down (get_or votes k 0 * unit) (get_or others k 0 * D))
down_many votes others seats given i unit D line fit last one below =
    let each : (k : ℕ) → k < length votes → get_or seats k 0 ≤ half_down (get_or votes k 0 * unit) (get_or others k 0 * D)
    = λ k kw. cell_down-at_least (get_or votes k 0) (get_or others k 0) D unit (get_or seats k 0) (positive_product votes others D k line one kw)
    (λ seated. lt_by_lt_le D (2 * unit) (get_or votes i 0) (last_signpost others seats i) (get_or votes k 0) (last_signpost others seats k)
    (positive_last votes others seats k line kw seated) below (last.least k kw seated)) in
    omega (arith, sum_to-le (length votes) (λ k. get_or seats k 0) _ each, fit.add_up)

-- if D is at or above that, rounding half down gives fewer
pub down_few : (votes others seats : List ℕ) (given i unit D : ℕ) → IsMatrixLine votes others → AreGiven votes others seats given →
    IsLastCell votes others seats i → 1 ≤ D → get_or votes i 0 * (2 * unit) ≤ D * last_signpost others seats i →
    sum_to (length votes) (λ k. half_down (get_or votes k 0 * unit) (get_or others k 0 * D)) < given
down_few votes others seats given i unit D line fit last one above =
    let iw = last.within in
    let each : (k : ℕ) → k < length votes → half_down (get_or votes k 0 * unit) (get_or others k 0 * D) ≤ get_or seats k 0
    = λ k kw. cell_down-at_most (get_or votes k 0) (get_or others k 0) D unit (get_or seats k 0) (positive_product votes others D k line one kw)
    (le_by_le (get_or votes k 0) (next_signpost others seats k) (get_or votes i 0) (last_signpost others seats i) D (2 * unit)
    (positive_last votes others seats i line iw last.seated) (fit.in_order i k iw kw last.seated) above) in
    let odd : 2 * (get_or seats i 0 - 1) + 1 ≡ 2 * get_or seats i 0 - 1 = omega (arith, last.seated) in
    let less : half_down (get_or votes i 0 * unit) (get_or others i 0 * D) < get_or seats i 0
    = omega (
      arith,
      cell_down-at_most (get_or votes i 0) (get_or others i 0) D unit (get_or seats i 0 - 1) (positive_product votes others D i line one iw)
          (rw odd above),
      last.seated,
    ) in
    omega (arith, sum_to-lt (length votes) _ (λ k. get_or seats k 0) i each iw less, fit.add_up)
