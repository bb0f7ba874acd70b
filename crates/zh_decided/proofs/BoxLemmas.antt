-- Divisors in millionths from the potentials of a sweep within a box.
use Rattle.std.proofs.Common.{◌≡◌, ℕ, suc, ◌+◌, ◌-◌, ◌*◌, ◌^◌, ◌<◌, ◌≤◌, List, slice_index, ap, ◌∙◌, arith}
use Rattle.std.proofs.lemmas.List.Elements.{All-from_get_or}
use Rattle.std.proofs.Math.Nat.{one-le-pow, pow-le-pow_right, pow-suc}
use Rattle.zh_decided.specs.Logarithms.{log_unit, power}
use Rattle.zh_decided.proofs.LogLemmas.{reaches}
use Rattle.zh_matrices.specs.Divisors.{AreWithin, AreWithinLimits, millionths}
use Rattle.zh_matrices.specs.Fitting.{FitsVotes}
use Rattle.zh_matrices.specs.Question.{AreSeatTotals, Question}
use Rattle.zh_matrices.specs.SeatMatrix.{IsStrict}
use Rattle.zh_decided.specs.Prices.{AreLogs, Logs, priced}
use Rattle.zh_decided.specs.Sweeps.{IsStill, of_column, of_row}
use Rattle.zh_decided.specs.declared.sweep_bounds.Bounds.{Bounds}
use Rattle.zh_decided.specs.declared.sweeps.Potentials.{Potentials}
use Rattle.zh_decided.specs.Boxes.{HaveLogs, IsBox}
use Rattle.zh_decided.specs.Tables.{AreLogTables}
use Rattle.zh_decided.proofs.ScaledLemmas.{AreScaled, strict}

-- the logarithms of the divisors are at most those of the limits
pub row-reached : (bits : ℕ) (bounds : Bounds) (x : ℕ) → IsBox bits bounds → bounds.row_floor ≤ x →
    power 2 (bounds.row_cap + bits * log_unit - x) ≤ power (10 ^ 18) log_unit
row-reached bits bounds x B floor = reaches 2 (10 ^ 18) B.most (bounds.row_cap + bits * log_unit - x) B.most_log (omega (arith, B.row_cap, B.row_floor))

pub column-reached : (bits : ℕ) (bounds : Bounds) (y : ℕ) → IsBox bits bounds → y ≤ bounds.column_cap → power 2 y ≤ power (10 ^ 12) log_unit
column-reached bits bounds y B cap = reaches 2 (10 ^ 12) B.scale y B.scale_log (omega (arith, B.column_cap))

-- numbers with these logarithms have equal logarithms too
pub same-logs : (bits most n : ℕ) (numbers : List ℕ) (one other : ℕ → ℕ) → n ≤ 32 → ((i : ℕ) → i < 32 → one i ≡ other i) →
    HaveLogs bits most n numbers one → HaveLogs bits most n numbers other
same-logs bits most n numbers one other few same H = record {
  one_each = H.one_each;
  logs = λ i lt. rw (← same i (omega arith)) (H.logs i lt);
  from_least = H.from_least;
  at_most = H.at_most;
  antilogarithms = λ i lt. rw (← same i (omega arith)) (H.antilogarithms i lt);
}

scaled-box : (q : Question) (bits m n top : ℕ) (bounds : Bounds) (p : Potentials) (of_rows of_columns : List ℕ) → m ≡ q.rows → n ≡ q.columns →
    top ≡ bounds.row_cap + bits * log_unit → IsBox bits bounds → ((d : ℕ) → d < q.rows → of_row p d ≤ bounds.row_cap) →
    HaveLogs bits (10 ^ 18) m of_rows (λ i. top - slice_index p.of_rows i) → HaveLogs bits (10 ^ 12) n of_columns (slice_index p.of_columns) →
    AreScaled q (2 ^ (31 - bits)) (millionths of_rows of_columns) (of_row p) (of_column p)
scaled-box q bits m n top bounds p of_rows of_columns rows-are columns-are top-is B capped R C = record {
  unit = B.scale;
  row_log = λ d. top - slice_index p.of_rows d;
  column_log = slice_index p.of_columns;
  scale_positive = omega arith;
  scale = B.scale_log;
  rows = λ d dm. R.logs d (omega arith);
  columns = λ g gn. C.logs g (omega arith);
  potentials = λ d g dm gn. omega (arith, capped d dm, B.row_cap);
}

within : (bits most m n : ℕ) (numbers : List ℕ) (logarithms : ℕ → ℕ) → m ≡ n → HaveLogs bits most m numbers logarithms → AreWithin n most numbers
within bits most m n numbers logarithms same H = record {
  one_each = omega (arith, H.one_each);
  from_1 = All-from_get_or (λ x. 1 ≤ x) numbers 0 (λ k lt. omega (arith, H.from_least k (omega (arith, H.one_each)), one-le-pow bits 2 (omega arith)));
  at_most = All-from_get_or (λ x. x ≤ most) numbers 0 (λ k lt. H.at_most k (omega (arith, H.one_each)));
}

pub within-limits : (q : Question) (bits m n : ℕ) (of_rows of_columns : List ℕ) (row_logs column_logs : ℕ → ℕ) → m ≡ q.rows → n ≡ q.columns →
    HaveLogs bits (10 ^ 18) m of_rows row_logs → HaveLogs bits (10 ^ 12) n of_columns column_logs → AreWithinLimits q of_rows of_columns
within-limits q bits m n of_rows of_columns row_logs column_logs rows-are columns-are R C = record {
  rows = within bits (10 ^ 18) m q.rows of_rows row_logs rows-are R;
  columns = within bits (10 ^ 12) n q.columns of_columns column_logs columns-are C;
}

-- the divisors give the seats of the sweep that ended at these potentials
pub gives-strictly : (q : Question) (l : Logs) (seats : List ℕ) (bits m n top : ℕ) (bounds : Bounds) (p : Potentials) (of_rows of_columns : List ℕ) →
    bits ≤ 20 → m ≡ q.rows → n ≡ q.columns → top ≡ bounds.row_cap + bits * log_unit → AreLogs l → AreLogTables q l →
    AreSeatTotals q.rows q.row_totals → FitsVotes q seats → IsBox bits bounds → IsStill (priced q l seats) bounds p →
    HaveLogs bits (10 ^ 18) m of_rows (λ i. top - slice_index p.of_rows i) → HaveLogs bits (10 ^ 12) n of_columns (slice_index p.of_columns) →
    IsStrict q (millionths of_rows of_columns) seats
gives-strictly q l seats bits m n top bounds p of_rows of_columns few rows-are columns-are top-is A T totals F B S R C =
    let one : 32 - bits ≡ suc (31 - bits) = omega arith in
    let double : 2 ^ (32 - bits) ≡ 2 ^ (31 - bits) * 2 = ap (λ x. 2 ^ x) one ∙ pow-suc 2 (31 - bits) in
    let capped : (d : ℕ) → d < q.rows → of_row p d ≤ bounds.row_cap = λ d dm. omega (arith, S.capped.rows d dm) in
    strict q l (2 ^ (31 - bits)) (millionths of_rows of_columns) bounds (of_row p) (of_column p) seats A T totals F
    (scaled-box q bits m n top bounds p of_rows of_columns rows-are columns-are top-is B capped R C) S.fair (omega (arith, B.given))
    (omega (arith, B.taken))

-- the least number of a box is within the limits
pub least-within : (bits most : ℕ) → bits ≤ 20 → 2 ^ 20 ≤ most → 2 ^ bits ≤ most
least-within bits most few room = let le : 2 ^ bits ≤ 2 ^ 20 = pow-le-pow_right {n = 2} (omega arith) {i = bits} {j = 20} few in omega arith
