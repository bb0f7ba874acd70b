-- The seats of single cells.
use Rattle.std.proofs.Common.{◌≡◌, ℕ, ◌*◌, ◌<◌, ◌≤◌, List, All, length, get_or, arith}
use Rattle.std.proofs.lemmas.List.Elements.{All-from_get_or}
use Rattle.zh_divisors.proofs.CallerLemmas.{each_place, term-le-sum_to}
use Rattle.zh_matrices.specs.Question.{AreSeatTotals, Question, cell}
use Rattle.zh_matrices.specs.SeatMatrix.{RowsAddUp}

-- a row has at most 400 seats, and so has each of its cells
pub few-in-cell : (q : Question) (s : List ℕ) → AreSeatTotals q.rows q.row_totals → RowsAddUp q s → (d g : ℕ) → d < q.rows → g < q.columns →
    cell q.columns s d g ≤ 400
few-in-cell q s totals add_up d g dm gn =
    let most : get_or q.row_totals d 0 ≤ 400 = totals.at_most_400 d 0 (omega (arith, totals.one_each)) in
    omega (arith, term-le-sum_to q.columns (cell q.columns s d) g gn, add_up d dm)

pub few-in-cells : (q : Question) (s : List ℕ) → AreSeatTotals q.rows q.row_totals → length s ≡ q.rows * q.columns → RowsAddUp q s → All (λ x. x ≤ 400) s
few-in-cells q s totals one_each add_up = All-from_get_or (λ x. x ≤ 400) s 0 (λ k lt.
    each_place q.rows q.columns (λ p. get_or s p 0 ≤ 400) (few-in-cell q s totals add_up) k (omega (arith, one_each)))
