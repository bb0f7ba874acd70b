-- Floating-point divisors, and near ties under them.
use Rattle.std.proofs.Common.{◌≡◌, ℕ, ◌+◌, ◌-◌, ◌*◌, ◌^◌, ◌<◌, ◌≤◌, List, get_or, slice_index, inl, inr, arith}
use Rattle.std.proofs.lemmas.Bool.{cases_lt}
use Rattle.zh_divisors.proofs.CallerLemmas.{positive_term}
use Rattle.zh_matrices.proofs.CallerLemmas.{few-in-cell}
use Rattle.zh_decided.specs.Floats.{floating}
use Rattle.zh_decided.specs.declared.floating.FloatingDivisors.{FloatingDivisors}
use Rattle.zh_decided.proofs.FloatLemmas.{of_scale, value_at}
use Rattle.zh_decided.specs.Logarithms.{log_unit}
use Rattle.zh_decided.proofs.PowerLemmas.{power_positive}
use Rattle.zh_matrices.specs.Fitting.{FitsVotes}
use Rattle.zh_matrices.specs.NearlyTied.{IsNear}
use Rattle.zh_matrices.specs.Question.{AreSeatTotals, Question, cell}
use Rattle.zh_decided.specs.Gaps.{IsGap}
use Rattle.zh_decided.specs.Prices.{AreLogs, Logs, priced}
use Rattle.zh_decided.specs.Sweeps.{StandsFree, of_column, of_row}
use Rattle.zh_decided.specs.Turns.{KeepsNearlyFair, MakesAnother}
use Rattle.zh_decided.specs.declared.sweeps.Gap.{Gap}
use Rattle.zh_decided.specs.declared.sweeps.Potentials.{Potentials}
use Rattle.zh_decided.specs.Floated.{AreColumnFloats, AreRowFloats, Fit}
use Rattle.zh_decided.specs.Tables.{AreLogTables}
use Rattle.zh_decided.proofs.ScaledLemmas.{AreScaled, near}
use Rattle.zh_decided.proofs.TableLemmas.{next-dearer, price-is}

-- the potentials at which a sweep ends are small enough for floating-point divisors, since each row has a seat
pub fit : (q : Question) (l : Logs) (seats : List ℕ) (given taken : ℕ) (p : Potentials) → AreLogs l → AreLogTables q l →
    AreSeatTotals q.rows q.row_totals → FitsVotes q seats → StandsFree (priced q l seats) given taken p → Fit q.rows q.columns p
fit q l seats given taken p A T totals F S = record {
  rows = λ d dm.
      let some : 1 ≤ get_or q.row_totals d 0 = totals.from_1 d 0 (omega (arith, totals.one_each)) in
      let seated : (g : ℕ) × (g < q.columns) × (0 < cell q.columns seats d g)
      = positive_term q.columns (λ g. cell q.columns seats d g) (omega (arith, F.rows_add_up d dm)) in
      let g : ℕ = seated.0 in
      let gn : g < q.columns = seated.1 in
      let few : cell q.columns seats d g ≤ 400 = few-in-cell q seats totals F.rows_add_up d g dm gn in
      let small : get_or l.of_odds (cell q.columns seats d g) 0 ≤ 2 ^ 36 = A.small_odds (cell q.columns seats d g) 0 (omega (arith, A.enough)) in
      elim (cases_lt 0 (cell q.columns q.votes d g)) [
        | inl votes ↦ omega (
          arith,
          S.still.fair.given d g dm gn votes,
          S.still.capped.columns g gn,
          S.free.column_cap,
          price-is q l A T d g (cell q.columns seats d g) dm gn,
        )
        | inr none ↦ absurd (omega (arith, F.on_votes d g dm gn (omega arith), seated.2))
      ];
  columns = λ g gn. omega (arith, S.still.capped.columns g gn, S.free.column_cap);
}

-- the floating-point divisors of potentials
pub scaled-floats : (q : Question) (p : Potentials) (x : FloatingDivisors) → Fit q.rows q.columns p → AreRowFloats q.rows p.of_rows x.of_rows →
    AreColumnFloats q.columns p.of_columns x.of_columns → AreScaled q 1 (floating x) (of_row p) (of_column p)
scaled-floats q p x fits R C = record {
  unit = 65598 * log_unit;
  row_log = λ d. 31 * log_unit + (2 ^ 60 + 2 ^ 45 - slice_index p.of_rows d);
  column_log = λ g. 31 * log_unit + (2 ^ 45 + slice_index p.of_columns g);
  scale_positive = power_positive 2 32799 (omega arith);
  scale = of_scale;
  rows = λ d dm. rw (value_at x.of_rows d) (R.logs d dm);
  columns = λ g gn. rw (value_at x.of_columns g) (C.logs g gn);
  potentials = λ d g dm gn. omega (arith, fits.rows d dm);
}

-- the matrix of a gap nearly follows from them
pub one-near : (q : Question) (l : Logs) (seats : List ℕ) (gap : Gap) (x : FloatingDivisors) → AreLogs l → AreLogTables q l →
    AreSeatTotals q.rows q.row_totals → FitsVotes q seats → IsGap (priced q l seats) gap →
    AreScaled q 1 (floating x) (of_row gap.potentials) (of_column gap.potentials) → IsNear q (floating x) seats
one-near q l seats gap x A T totals F G K =
    near q l 1 0 0 (floating x) G.still.bounds (of_row gap.potentials) (of_column gap.potentials) seats A T totals F K G.still.still.fair
    (omega arith) (omega arith)

-- so does the matrix in which its cycle is cancelled
pub other-near : (q : Question) (l : Logs) (seats others : List ℕ) (gap : Gap) (x : FloatingDivisors) → AreLogs l → AreLogTables q l →
    AreSeatTotals q.rows q.row_totals → FitsVotes q others → IsGap (priced q l seats) gap → gap.cycle_at ≡ gap.still_at + 1 →
    gap.cycle_at ≤ 4108 → KeepsNearlyFair q gap.cycle seats others →
    AreScaled q 1 (floating x) (of_row gap.potentials) (of_column gap.potentials) → IsNear q (floating x) others
other-near q l seats others gap x A T totals F G one small keeps K =
    let b = G.still.bounds in
    let slack : gap.cycle_at ≡ b.given + b.taken + 1 = omega (arith, G.still.given_is, G.still.taken_is) in
    let spent : ℕ = b.given + b.taken + gap.cycle.length * 1 in
    near q l 1 spent spent (floating x) b (of_row gap.potentials) (of_column gap.potentials) others A T totals F K
    (keeps l b 1 (of_row gap.potentials) (of_column gap.potentials) A (rw slack at G.cycle) G.still.still.fair)
    (omega (arith, G.still.given_is, G.still.taken_is, G.cycle.circle.few)) (omega (arith, G.still.given_is, G.still.taken_is, G.cycle.circle.few))

-- the two matrices are different
pub another : (q : Question) (l : Logs) (seats others : List ℕ) (gap : Gap) → AreLogs l → AreLogTables q l → AreSeatTotals q.rows q.row_totals →
    FitsVotes q seats → IsGap (priced q l seats) gap → gap.cycle_at ≤ 4108 → MakesAnother q gap.cycle seats others →
    ((k : ℕ) → slice_index seats k ≡ slice_index others k) → ⊥
another q l seats others gap A T totals F G small makes same =
    let other = makes l gap.cycle_at G.cycle (λ d g dm gn has. omega (
      arith,
      next-dearer q l A T d g (cell q.columns seats d g) dm gn has (few-in-cell q seats totals F.rows_add_up d g dm gn),
    )) in
    other.4 (same (other.0 * q.columns + other.1))
