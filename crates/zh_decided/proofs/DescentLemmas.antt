-- How a sweep ends from one level on, by how it ends from the next level on.
use Rattle.std.proofs.Common.{◌≡◌, ℕ, ◌+◌, ◌^◌, ◌<◌, ◌≤◌, List, refl, arith}
use Rattle.zh_decided.specs.Levels.{AreColumnMarks, AreRowMarks, Descends, GoesOut, IsLowColumn, IsTrail, potential_at}
use Rattle.zh_decided.specs.Prices.{Priced}
use Rattle.zh_decided.specs.Sweeps.{IsOut, step_at}
use Rattle.zh_decided.specs.declared.sweep_bounds.Bounds.{Bounds}
use Rattle.zh_decided.specs.declared.levels.Descent.{Descent}
use Rattle.zh_decided.specs.declared.levels.Descent.TheVariants as descents
use Rattle.zh_decided.specs.declared.prices.Mark.{Mark}
use Rattle.zh_decided.specs.declared.cycles.Trail.{Trail}
use Rattle.zh_decided.proofs.ChainLemmas.{too_many}
use Rattle.zh_decided.proofs.EncloseLemmas.{out-column, out-later}
use Rattle.zh_decided.proofs.RoomLemmas.{AreNear60, no_low_column, room-later}

pub goes_out-column : (m : Priced) (bounds : Bounds) (levels : ℕ) (columns rows : List Mark) → AreNear60 m → bounds.given ≤ 2 ^ 36 →
    bounds.taken ≤ 2 ^ 36 → levels ≤ 32 → AreRowMarks m bounds columns rows → IsLowColumn m bounds rows columns →
    GoesOut m bounds levels columns
goes_out-column m bounds levels columns rows near given taken few R low = record {
  out = out-column m bounds levels columns rows R low;
  no_room = no_low_column m bounds levels columns rows near given taken few R low;
}

goes_out-later : (m : Priced) (bounds : Bounds) (levels : ℕ) (columns rows lower : List Mark) → AreNear60 m → bounds.given ≤ 2 ^ 36 →
    bounds.taken ≤ 2 ^ 36 → levels + 1 ≤ 32 → AreRowMarks m bounds columns rows → AreColumnMarks m bounds rows columns lower →
    GoesOut m bounds levels lower → GoesOut m bounds (levels + 1) columns
goes_out-later m bounds levels columns rows lower near given taken few R L out = record {
  out = out-later m bounds levels columns rows lower R L out.out;
  no_room = λ has. out.no_room (room-later m bounds levels columns rows lower near given taken few R L has);
}

-- every end except a trail is also the end one level before
ends-later : (m : Priced) (bounds : Bounds) (levels : ℕ) (columns rows lower : List Mark) (end : Descent) → AreNear60 m →
    bounds.given ≤ 2 ^ 36 →
    bounds.taken ≤ 2 ^ 36 → levels + 1 ≤ 32 → AreRowMarks m bounds columns rows → AreColumnMarks m bounds rows columns lower →
    ((trail : Trail) → end ≡ descents.Falls trail → ⊥) → Descends m bounds levels lower end → Descends m bounds (levels + 1) columns end
ends-later m bounds levels columns rows lower (descents.Still p) near given taken few R L not D = D
ends-later m bounds levels columns rows lower (descents.Cycle cycle) near given taken few R L not D = D
ends-later m bounds levels columns rows lower descents.Out near given taken few R L not D =
    goes_out-later m bounds levels columns rows lower near given taken few R L D
ends-later m bounds levels columns rows lower (descents.Falls trail) near given taken few R L not D = absurd (not trail refl)

pub descends-later : (m : Priced) (bounds : Bounds) (levels n : ℕ) (columns rows lower : List Mark) (end : Descent) → n ≡ levels + 1 →
    AreNear60 m →
    bounds.given ≤ 2 ^ 36 → bounds.taken ≤ 2 ^ 36 → n ≤ 32 → AreRowMarks m bounds columns rows →
    AreColumnMarks m bounds rows columns lower →
    ((trail : Trail) → end ≡ descents.Falls trail → ⊥) → Descends m bounds levels lower end → Descends m bounds n columns end
descends-later m bounds levels n columns rows lower end is near given taken few R L not D =
    rw is (ends-later m bounds levels columns rows lower end near given taken (omega arith) R L not D)

-- a trail does not have more steps than there are columns
pub no_trail : (m : Priced) (bounds : Bounds) (columns : List Mark) (trail : Trail) → IsTrail m bounds columns trail →
    trail.length ≡ m.cells.columns + 1 → ⊥
no_trail m bounds columns trail T long =
    too_many m.cells.columns (λ k. (step_at trail.steps k).column) (λ k lt. T.column k (omega arith)) (λ j k jk lt. T.differ j k jk
    (omega arith))

-- a sweep that leaves its bounds after it began at the caps
pub out-of : (m : Priced) (bounds : Bounds) (columns : List Mark) → m.cells.columns ≤ 32 →
    ((g : ℕ) → g < m.cells.columns → potential_at columns g ≡ bounds.column_cap) → GoesOut m bounds m.cells.columns columns → IsOut m bounds
out-of m bounds columns few caps out = record {
  out = λ a b e x y fair cap above. out.out a b e x y fair cap (λ g gn. omega (arith, caps g gn, above g gn));
  not_free = λ free. out.no_room (record {
    free = free;
    each = λ g gn. omega (arith, caps g gn, free.column_cap);
  });
}
