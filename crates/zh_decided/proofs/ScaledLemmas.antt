-- Divisors whose logarithms come from fair potentials give the seats.
use Rattle.std.proofs.Common.{◌≡◌, ℕ, ◌+◌, ◌-◌, ◌*◌, ◌^◌, ◌<◌, ◌≤◌, List, slice_index, inl, inr, ap, arith}
use Rattle.std.proofs.lemmas.Bool.{cases_lt}
use Rattle.std.proofs.Math.Nat.{le_of_lt, mul-pos}
use Rattle.zh_divisors.specs.Rounding.{Rounds}
use Rattle.zh_matrices.proofs.CallerLemmas.{few-in-cell}
use Rattle.zh_decided.specs.Logarithms.{IsLog}
use Rattle.zh_decided.proofs.LogLemmas.{positive_by_log}
use Rattle.zh_matrices.specs.Divisors.{Divisors}
use Rattle.zh_matrices.specs.Fitting.{FitsVotes}
use Rattle.zh_matrices.specs.NearlyTied.{IsNear, NearlyRounds}
use Rattle.zh_matrices.specs.Question.{AreSeatTotals, Question, cell}
use Rattle.zh_matrices.specs.SeatMatrix.{EachRounds, Follows, IsStrict}
use Rattle.zh_decided.specs.Prices.{AreLogs, Logs, priced}
use Rattle.zh_decided.specs.Sweeps.{AreFair}
use Rattle.zh_decided.specs.declared.sweep_bounds.Bounds.{Bounds}
use Rattle.zh_decided.specs.Tables.{AreLogTables}
use Rattle.zh_decided.proofs.CellLemmas.{above-lower, below-upper, nearly-above-lower, nearly-below-upper}
use Rattle.zh_decided.proofs.TableLemmas.{near-factor, price-is}

-- the logarithms of the divisors are these potentials, up to an error e; `unit` is the logarithm of the square of the scale
pub record AreScaled (q : Question) (e : ℕ) (x : Divisors) (of_row of_column : ℕ → ℕ) : Type 0 where
  pub unit : ℕ
  pub row_log : ℕ → ℕ
  pub column_log : ℕ → ℕ
  pub scale_positive : 0 < x.scale
  pub scale : IsLog 0 2 (x.scale * x.scale) unit
  pub rows : (d : ℕ) → d < q.rows → IsLog e 2 (slice_index x.of_rows d) (row_log d)
  pub columns : (g : ℕ) → g < q.columns → IsLog e 2 (slice_index x.of_columns g) (column_log g)
  pub potentials : (d g : ℕ) → d < q.rows → g < q.columns → row_log d + column_log g + of_row d ≡ 2 ^ 60 + unit + of_column g

-- seats on votes with the totals follow if each cell rounds to its seats
follows : (rounding : ℕ → ℕ → ℕ → Type 0) (q : Question) (e : ℕ) (x : Divisors) (X Y : ℕ → ℕ) (seats : List ℕ) → FitsVotes q seats →
    AreScaled q e x X Y → EachRounds rounding q x seats → Follows rounding q x seats
follows rounding q e x X Y seats F K each = record {
  one_each = F.one_each;
  rows_add_up = F.rows_add_up;
  columns_add_up = F.columns_add_up;
  scale_positive = K.scale_positive;
  row_divisors = λ d dm. positive_by_log e 2 (slice_index x.of_rows d) (K.row_log d) (K.rows d dm);
  column_divisors = λ g gn. positive_by_log e 2 (slice_index x.of_columns g) (K.column_log g) (K.columns g gn);
  each_rounds = each;
}

cell-rounds : (q : Question) (l : Logs) (e : ℕ) (x : Divisors) (bounds : Bounds) (X Y : ℕ → ℕ) (seats : List ℕ) → AreLogs l → AreLogTables q l →
    AreSeatTotals q.rows q.row_totals → FitsVotes q seats → AreScaled q e x X Y → AreFair (priced q l seats) bounds 0 0 X Y →
    4 + 2 * e ≤ bounds.given → 6 ≤ bounds.taken → (d g : ℕ) → d < q.rows → g < q.columns →
    Rounds (cell q.columns q.votes d g * (x.scale * x.scale)) (slice_index x.of_rows d * slice_index x.of_columns g) (cell q.columns seats d g)
cell-rounds q l e x bounds X Y seats A T totals F K fair given taken d g dm gn =
    let v : ℕ = cell q.columns q.votes d g in
    let s : ℕ = cell q.columns seats d g in
    let V : ℕ = cell q.columns l.of_votes d g in
    let S : ℕ = x.scale * x.scale in
    let R : ℕ = slice_index x.of_rows d in
    let C : ℕ = slice_index x.of_columns g in
    let few : s ≤ 400 = few-in-cell q seats totals F.rows_add_up d g dm gn in
    elim (cases_lt 0 v) [
      | inl some ↦ record {
        below_upper = below-upper e v (2 * s + 1) S R C V (slice_index l.of_odds s) K.unit (K.row_log d) (K.column_log g)
            (T.votes d g dm gn some) K.scale (T.odds s few) (K.rows d dm) (K.columns g gn)
            (omega (arith, fair.given d g dm gn some, price-is q l A T d g s dm gn, K.potentials d g dm gn));
        above_lower = λ has.
            let odd : 2 * (s - 1) + 1 ≡ 2 * s - 1 = omega arith in
            above-lower e v (2 * s - 1) S R C V (slice_index l.of_odds (s - 1)) K.unit (K.row_log d) (K.column_log g)
            (T.votes d g dm gn some) K.scale (rw odd at (T.odds (s - 1) (omega arith))) (K.rows d dm) (K.columns g gn)
            (omega (arith, fair.taken d g dm gn has, price-is q l A T d g (s - 1) dm gn, K.potentials d g dm gn));
      }
      | inr none ↦
          let no-votes : v ≡ 0 = omega arith in
          let no-seats : s ≡ 0 = F.on_votes d g dm gn no-votes in
          let nothing : v * S ≡ 0 * S = ap (λ n. n * S) no-votes in
          let positive : 0 < R * C = mul-pos (positive_by_log e 2 R (K.row_log d) (K.rows d dm)) (positive_by_log e 2 C (K.column_log g) (K.columns g gn)) in
          record {
            below_upper = omega arith;
            above_lower = λ has. absurd (omega arith);
          }
    ]

-- the seats follow strictly if the slacks cover the errors of the logarithms and of the rounding
pub strict : (q : Question) (l : Logs) (e : ℕ) (x : Divisors) (bounds : Bounds) (X Y : ℕ → ℕ) (seats : List ℕ) → AreLogs l → AreLogTables q l →
    AreSeatTotals q.rows q.row_totals → FitsVotes q seats → AreScaled q e x X Y → AreFair (priced q l seats) bounds 0 0 X Y →
    4 + 2 * e ≤ bounds.given → 6 ≤ bounds.taken → IsStrict q x seats
strict q l e x bounds X Y seats A T totals F K fair given taken =
    follows Rounds q e x X Y seats F K (cell-rounds q l e x bounds X Y seats A T totals F K fair given taken)

cell-nearly : (q : Question) (l : Logs) (e a b : ℕ) (x : Divisors) (bounds : Bounds) (X Y : ℕ → ℕ) (seats : List ℕ) → AreLogs l → AreLogTables q l →
    AreSeatTotals q.rows q.row_totals → FitsVotes q seats → AreScaled q e x X Y → AreFair (priced q l seats) bounds a b X Y →
    a + 4 + 2 * e ≤ bounds.given + 8192 → b + 6 ≤ bounds.taken + 8192 → (d g : ℕ) → d < q.rows → g < q.columns →
    NearlyRounds (cell q.columns q.votes d g * (x.scale * x.scale)) (slice_index x.of_rows d * slice_index x.of_columns g) (cell q.columns seats d g)
cell-nearly q l e a b x bounds X Y seats A T totals F K fair given taken d g dm gn =
    let v : ℕ = cell q.columns q.votes d g in
    let s : ℕ = cell q.columns seats d g in
    let V : ℕ = cell q.columns l.of_votes d g in
    let S : ℕ = x.scale * x.scale in
    let R : ℕ = slice_index x.of_rows d in
    let C : ℕ = slice_index x.of_columns g in
    let few : s ≤ 400 = few-in-cell q seats totals F.rows_add_up d g dm gn in
    elim (cases_lt 0 v) [
      | inl some ↦ record {
        to_upper = le_of_lt (nearly-below-upper 131072 8192 e v (2 * s + 1) S R C V (slice_index l.of_odds s) K.unit (K.row_log d) (K.column_log g)
            near-factor (T.votes d g dm gn some) K.scale (T.odds s few) (K.rows d dm) (K.columns g gn)
            (omega (arith, fair.given d g dm gn some, price-is q l A T d g s dm gn, K.potentials d g dm gn)));
        from_lower = λ has.
            let odd : 2 * (s - 1) + 1 ≡ 2 * s - 1 = omega arith in
            le_of_lt (nearly-above-lower 131072 8192 e v (2 * s - 1) S R C V (slice_index l.of_odds (s - 1)) K.unit (K.row_log d) (K.column_log g)
            near-factor (T.votes d g dm gn some) K.scale (rw odd at (T.odds (s - 1) (omega arith))) (K.rows d dm) (K.columns g gn)
            (omega (arith, fair.taken d g dm gn has, price-is q l A T d g (s - 1) dm gn, K.potentials d g dm gn)));
      }
      | inr none ↦
          let no-votes : v ≡ 0 = omega arith in
          let no-seats : s ≡ 0 = F.on_votes d g dm gn no-votes in
          let nothing : v * S ≡ 0 * S = ap (λ n. n * S) no-votes in
          record {
            to_upper = omega arith;
            from_lower = λ has. absurd (omega arith);
          }
    ]

-- the seats nearly follow if the slacks fall short of that by at most the logarithm of the factor
pub near : (q : Question) (l : Logs) (e a b : ℕ) (x : Divisors) (bounds : Bounds) (X Y : ℕ → ℕ) (seats : List ℕ) → AreLogs l → AreLogTables q l →
    AreSeatTotals q.rows q.row_totals → FitsVotes q seats → AreScaled q e x X Y → AreFair (priced q l seats) bounds a b X Y →
    a + 4 + 2 * e ≤ bounds.given + 8192 → b + 6 ≤ bounds.taken + 8192 → IsNear q x seats
near q l e a b x bounds X Y seats A T totals F K fair given taken =
    follows NearlyRounds q e x X Y seats F K (cell-nearly q l e a b x bounds X Y seats A T totals F K fair given taken)
