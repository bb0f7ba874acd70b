-- If the potential of no column falls, the potentials are fair and the greatest.
use Rattle.std.proofs.Common.{◌≡◌, ℕ, ◌<◌, ◌≤◌, None, List, arith}
use Rattle.zh_decided.specs.Levels.{AreAbove, AreColumnMarks, AreRowMarks, mark_at, potential_at}
use Rattle.zh_decided.specs.Prices.{Priced}
use Rattle.zh_decided.specs.Sweeps.{IsStill, of_column, of_row}
use Rattle.zh_decided.specs.declared.sweep_bounds.Bounds.{Bounds}
use Rattle.zh_decided.specs.declared.prices.Mark.{Mark}
use Rattle.zh_decided.specs.declared.sweeps.Potentials.{Potentials}
use Rattle.zh_decided.proofs.EncloseLemmas.{columns-above, rows-above}
use Rattle.zh_decided.proofs.TrailLemmas.{column-kept}

pub still : (m : Priced) (bounds : Bounds) (columns rows lower : List Mark) (p : Potentials) → 1 ≤ bounds.column_floor →
    m.cells.rows ≤ 32 → m.cells.columns ≤ 32 →
    AreRowMarks m bounds columns rows → AreColumnMarks m bounds rows columns lower →
    ((g : ℕ) → g < m.cells.columns → potential_at columns g ≤ bounds.column_cap) → AreAbove m bounds columns →
    ((g : ℕ) → g < m.cells.columns → (mark_at lower g).maker ≡ None) →
    ((i : ℕ) → i < 32 → of_row p i ≡ potential_at rows i) → ((i : ℕ) → i < 32 → of_column p i ≡ potential_at lower i) → IsStill m bounds p
still m bounds columns rows lower p positive few_rows few_columns R L caps above none of_rows of_columns =
    let kept : (g : ℕ) → g < m.cells.columns → of_column p g ≡ potential_at columns g
    = λ g gn. omega (
      arith,
      of_columns g (omega arith),
      column-kept m bounds rows (potential_at columns g) g (potential_at lower g) (mark_at lower g).maker (L.each g gn).maker (none g gn),
    ) in
    record {
      fair = record {
        given = λ d g dm gn votes. omega (arith, of_rows d (omega arith), kept g gn, (R.each d dm).given g gn votes);
        taken = λ d g dm gn seat. omega (
          arith,
          of_rows d (omega arith),
          of_columns g (omega arith),
          L.floors g gn,
          (L.each g gn).taken d
              dm seat,
        );
      };
      capped = record {
        rows = λ d dm. omega (arith, of_rows d (omega arith), (R.each d dm).capped);
        columns = λ g gn. omega (arith, kept g gn, caps g gn);
      };
      row_floors = λ d dm. omega (arith, of_rows d (omega arith), R.floors d dm);
      column_floors = λ g gn. omega (arith, of_columns g (omega arith), L.floors g gn);
      greatest_rows = λ x y fair capped d dm. omega (
        arith,
        of_rows d (omega arith),
        rows-above m bounds columns rows 0 0 0 x y R fair capped.rows (λ g gn. omega (arith, above x y fair capped g gn)) d dm,
      );
      greatest_columns = λ x y fair capped g gn. omega (arith, kept g gn, above x y fair capped g gn);
    }

-- at the next level, too, no fair potentials are above the columns
pub above-later : (m : Priced) (bounds : Bounds) (columns rows lower : List Mark) → AreRowMarks m bounds columns rows →
    AreColumnMarks m bounds rows columns lower → AreAbove m bounds columns → AreAbove m bounds lower
above-later m bounds columns rows lower R L above x y fair capped g gn =
    omega (
      arith,
      columns-above m bounds columns rows lower 0 0 0 x y R L fair capped.rows (λ f fn. omega (arith, above x y fair capped f fn)) g gn,
    )

-- at the next level, too, no column is above its cap
pub caps-later : (m : Priced) (bounds : Bounds) (columns rows lower : List Mark) → AreColumnMarks m bounds rows columns lower →
    ((g : ℕ) → g < m.cells.columns → potential_at columns g ≤ bounds.column_cap) → (g : ℕ) → g < m.cells.columns →
    potential_at lower g ≤ bounds.column_cap
caps-later m bounds columns rows lower L caps g gn = omega (arith, caps g gn, (L.each g gn).falls)
