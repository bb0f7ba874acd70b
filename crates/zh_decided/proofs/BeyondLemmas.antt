-- Why no divisors in the ranges give the seats, if the sweep within the limits does not end at potentials.
use Rattle.std.proofs.Common.{◌≡◌, ℕ, ◌+◌, ◌-◌, ◌*◌, ◌^◌, ◌<◌, ◌≤◌, List, slice_index, inl, inr, ap, subst, arith}
use Rattle.std.proofs.lemmas.Bool.{cases_lt}
use Rattle.std.proofs.Math.Nat.{mul-le-mul_right}
use Rattle.zh_decided.specs.Logarithms.{IsLog, log_unit}
use Rattle.zh_decided.proofs.RoundingLemmas.{HasFactor, factor, factor_faster}
use Rattle.zh_decided.proofs.LogLemmas.{apart_by_factor, log_of, log_of-is, of_power}
use Rattle.zh_decided.proofs.PowerLemmas.{power-is}
use Rattle.zh_matrices.specs.Divisors.{Divisors, millionths}
use Rattle.zh_matrices.specs.Fitting.{FitsVotes}
use Rattle.zh_matrices.specs.Question.{AreSeatTotals, Question, cell}
use Rattle.zh_matrices.specs.SeatMatrix.{IsStrict}
use Rattle.zh_matrices.proofs.CallerLemmas.{few-in-cell, only_seats, weakened}
use Rattle.zh_decided.specs.Prices.{AreLogs, Logs, priced}
use Rattle.zh_decided.specs.Sweeps.{AreFair, AreOut, IsCycle, IsLow, StandsFree, of_column, of_row}
use Rattle.zh_decided.specs.declared.sweep_bounds.Bounds.{Bounds}
use Rattle.zh_decided.specs.declared.cycles.Cycle.{Cycle}
use Rattle.zh_decided.specs.declared.sweeps.Potentials.{Potentials}
use Rattle.zh_decided.proofs.CircleLemmas.{no_cycle, same-slacks}
use Rattle.zh_decided.specs.Boxes.{IsBox, NoneInRange}
use Rattle.zh_decided.specs.Tables.{AreLogTables}
use Rattle.zh_decided.proofs.CellLemmas.{cheap, dear}
use Rattle.zh_decided.proofs.TableLemmas.{price-is}

-- 1.05 is more than 738 / 737 times 2^20 millionths, and 1 is 10000 / 9999 times 0.9999
low-factor : HasFactor 737 1456908
low-factor = factor 737 1456908 (omega arith) (omega arith)

high-factor : HasFactor 9999 135832
high-factor = factor_faster 9999 7904 135832 (omega arith) (omega arith) (omega arith)

above-least : (n : ℕ) → 1050000 ≤ n → 20 * log_unit + 1456900 < log_of n
above-least n least =
    let power-20 : IsLog 0 2 (2 ^ 20) (20 * log_unit) = rw (power-is 2 20) at (of_power 20) in
    omega (
      arith,
      apart_by_factor 737 1456908 0 2 0 1 (2 ^ 20) n (20 * log_unit) (log_of n) low-factor power-20 (log_of-is n (omega arith)) (omega arith),
    )

below-most : (n most l : ℕ) → 0 < n → 10000 * n ≤ 9999 * most → IsLog 0 2 most l → log_of n + 135830 < l
below-most n most l some le L =
    omega (arith, apart_by_factor 9999 135832 0 1 0 2 n most (log_of n) l high-factor (log_of-is n some) L le)

-- the logarithms of divisors that give the seats are fair potentials, up to the slacks and the errors of the logarithms
fair-logs : (q : Question) (l : Logs) (seats : List ℕ) (bounds : Bounds) (of_rows of_columns : List ℕ) (w : ℕ) → AreLogs l → AreLogTables q l →
    AreSeatTotals q.rows q.row_totals → FitsVotes q seats → IsLog 0 2 (10 ^ 12) w →
    ((d : ℕ) → d < q.rows → log_of (slice_index of_rows d) ≤ 2 ^ 60 + w) → IsStrict q (millionths of_rows of_columns) seats →
    AreFair (priced q l seats) bounds (bounds.given + 5) (bounds.taken + 3) (λ d. 2 ^ 60 + w - log_of (slice_index of_rows d))
    (λ g. log_of (slice_index of_columns g))
fair-logs q l seats bounds of_rows of_columns w A T totals F W small S = record {
  given = λ d g dm gn some.
      let s : ℕ = cell q.columns seats d g in
      let R : ℕ = slice_index of_rows d in
      let C : ℕ = slice_index of_columns g in
      omega (
        arith,
        price-is q l A T d g s dm gn,
        dear (cell q.columns q.votes d g) (2 * s + 1) (10 ^ 12) R C (cell q.columns l.of_votes d g) (slice_index l.of_odds s) w (log_of R) (log_of C)
            (T.votes d g dm gn some) W (T.odds s (few-in-cell q seats totals F.rows_add_up d g dm gn)) (log_of-is R (S.row_divisors d dm))
            (log_of-is C (S.column_divisors g gn)) (S.each_rounds d g dm gn).below_upper,
      );
  taken = λ d g dm gn has.
      let s : ℕ = cell q.columns seats d g in
      let R : ℕ = slice_index of_rows d in
      let C : ℕ = slice_index of_columns g in
      let odd : 2 * (s - 1) + 1 ≡ 2 * s - 1 = omega arith in
      let few : s ≤ 400 = few-in-cell q seats totals F.rows_add_up d g dm gn in
      elim (cases_lt 0 (cell q.columns q.votes d g)) [
        | inl some ↦ omega (
          arith,
          small d dm,
          price-is q l A T d g (s - 1) dm gn,
          cheap (cell q.columns q.votes d g) (2 * s - 1) (10 ^ 12) R C (cell q.columns l.of_votes d g) (slice_index l.of_odds (s - 1)) w (log_of R)
              (log_of C) (T.votes d g dm gn some) W (rw odd at (T.odds (s - 1) (omega arith))) (log_of-is R (S.row_divisors d dm))
              (log_of-is C (S.column_divisors g gn)) ((S.each_rounds d g dm gn).above_lower has),
        )
        | inr none ↦ absurd (omega (arith, F.on_votes d g dm gn (omega arith)))
      ];
}

-- if a sweep from 2^20 millionths on leaves the limits, no divisors in the ranges give the seats
pub out-of-range : (q : Question) (l : Logs) (seats : List ℕ) (bounds : Bounds) → q.columns ≤ 32 → AreLogs l → AreLogTables q l →
    AreSeatTotals q.rows q.row_totals → FitsVotes q seats → IsBox 20 bounds →
    AreOut (priced q l seats) bounds q.columns (λ g. bounds.column_cap) → NoneInRange q seats
out-of-range q l seats bounds few A T totals F B out = λ of_rows of_columns range S.
    let w : ℕ = B.scale in
    let X : ℕ → ℕ = λ d. 2 ^ 60 + w - log_of (slice_index of_rows d) in
    let Y : ℕ → ℕ = λ g. log_of (slice_index of_columns g) in
    let row-high : (d : ℕ) → d < q.rows → log_of (slice_index of_rows d) + 135830 < B.most = λ d dm.
    below-most (slice_index of_rows d) (10 ^ 18) B.most (S.row_divisors d dm) (omega (arith, range.row_most d dm)) B.most_log in
    let row-low : (d : ℕ) → d < q.rows → 20 * log_unit + 1456900 < log_of (slice_index of_rows d) = λ d dm.
    above-least (slice_index of_rows d) (range.row_least d dm) in
    let column-high : (g : ℕ) → g < q.columns → Y g + 135830 < w = λ g gn.
    below-most (slice_index of_columns g) (10 ^ 12) w (S.column_divisors g gn) (omega (arith, range.column_most g gn)) B.scale_log in
    let column-low : (g : ℕ) → g < q.columns → 20 * log_unit + 1456900 < Y g = λ g gn.
    above-least (slice_index of_columns g) (range.column_least g gn) in
    let a : ℕ = bounds.given + 5 in
    let b : ℕ = bounds.taken + 3 in
    let fair : AreFair (priced q l seats) bounds a b X Y
    = fair-logs q l seats bounds of_rows of_columns w A T totals F B.scale_log (λ d dm. omega (arith, row-high d dm, B.row_floor)) S in
    let errors : a + b ≡ 4116 = omega (arith, B.given, B.taken) in
    let levels : (q.columns + 1) * 4116 ≤ 33 * 4116 = mul-le-mul_right {m = q.columns + 1} {n = 33} 4116 (omega arith) in
    let all-levels : (q.columns + 1) * (a + b) ≡ (q.columns + 1) * 4116 = ap (λ n. (q.columns + 1) * n) errors in
    let low : IsLow (priced q l seats) bounds (0 + (q.columns + 1) * (a + b)) X Y
    = out a b 0 X Y fair (λ d dm. omega (arith, row-low d dm, B.row_cap)) (λ g gn. omega (arith, column-high g gn, B.column_cap)) in
    elim low [
      | inl row ↦ absurd (omega (arith, row.2, row-high row.0 row.1, B.row_floor))
      | inr column ↦ absurd (omega (arith, column.2, column-low column.0 column.1, B.column_floor))
    ]

-- if a sweep with these slacks ends at potentials, there is no cycle in a box with the same slacks
pub no-cycle-in-box : (q : Question) (l : Logs) (seats : List ℕ) (bounds : Bounds) (p : Potentials) (cycle : Cycle) → IsBox 20 bounds →
    StandsFree (priced q l seats) 4102 6 p → IsCycle (priced q l seats) (bounds.given + bounds.taken) cycle → ⊥
no-cycle-in-box q l seats bounds p cycle B S C =
    no_cycle (priced q l seats) bounds cycle (of_row p) (of_column p)
    (same-slacks (priced q l seats) S.bounds bounds 0 0 (of_row p) (of_column p) (omega (arith, S.given_is, B.given)) (omega (arith, S.taken_is, B.taken))
    S.still.fair)
    C

-- the seats are the only ones, so divisors in the ranges give no others either
pub none-at-all : (q : Question) (x : Divisors) (seats : List ℕ) → IsStrict q x seats → NoneInRange q seats → (others : List ℕ) → NoneInRange q others
none-at-all q x seats strict none others of_rows of_columns range S =
    let only : others ≡ seats
    = only_seats q x (millionths of_rows of_columns) seats others strict (weakened q (millionths of_rows of_columns) others S) in
    none of_rows of_columns range (subst (λ (s : List ℕ). IsStrict q (millionths of_rows of_columns) s) only S)
