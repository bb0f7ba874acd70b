-- Columns so high that no level brings them down to 0.
use Rattle.std.proofs.Common.{◌≡◌, ℕ, ◌+◌, ◌-◌, ◌*◌, ◌^◌, ◌<◌, ◌≤◌, Option, Some, None, List, All, length, arith}
use Rattle.zh_matrices.specs.Question.{Question, cell}
use Rattle.zh_divisors.proofs.CallerLemmas.{cell-within}
use Rattle.zh_decided.specs.Levels.{AreColumnMarks, AreRowMarks, HasRoom, IsLowColumn, IsRowMaker, mark_at, potential_at}
use Rattle.zh_decided.specs.Prices.{AreLogs, Logs, Priced, priced}
use Rattle.zh_decided.specs.declared.sweep_bounds.Bounds.{Bounds}
use Rattle.zh_decided.specs.declared.prices.Mark.{Mark}
use Rattle.zh_decided.proofs.MarkLemmas.{IsColumnMaker}

-- prices near 2^60
pub record AreNear60 (m : Priced) : Type 0 where
  pub next : (d g : ℕ) → d < m.cells.rows → g < m.cells.columns → 2 ^ 60 - 2 ^ 36 ≤ m.next d g
  pub last : (d g : ℕ) → d < m.cells.rows → g < m.cells.columns → m.last d g ≤ 2 ^ 60 + 2 ^ 36

row-high : (m : Priced) (bounds : Bounds) (w : ℕ) (columns : List Mark) (d potential : ℕ) (maker : Option ℕ) → AreNear60 m →
    d < m.cells.rows →
    2 ^ 61 ≤ bounds.row_cap → bounds.given ≤ 2 ^ 36 → w ≤ 2 ^ 44 → ((g : ℕ) → g < m.cells.columns → w ≤ potential_at columns g) →
    IsRowMaker m bounds columns d potential maker → w + 2 ^ 60 ≤ potential + 2 ^ 37
row-high m bounds w columns d potential None near dm cap small wide high made = omega arith
row-high m bounds w columns d potential (Some g) near dm cap small wide high made =
    omega (arith, made.made, near.next d g dm made.column, high g made.column)

column-high : (m : Priced) (bounds : Bounds) (w : ℕ) (rows : List Mark) (before g potential : ℕ) (maker : Option ℕ) → AreNear60 m →
    g < m.cells.columns →
    bounds.taken ≤ 2 ^ 36 → w ≤ before → ((d : ℕ) → d < m.cells.rows → w + 2 ^ 60 ≤ potential_at rows d + 2 ^ 37) →
    IsColumnMaker m bounds rows before g potential maker → w ≤ potential + 2 ^ 38
column-high m bounds w rows before g potential None near gn small start high made = omega arith
column-high m bounds w rows before g potential (Some d) near gn small start high made =
    omega (arith, made.1.made, near.last d g made.1.row gn, high d made.1.row)

rows-high : (m : Priced) (bounds : Bounds) (levels : ℕ) (columns rows : List Mark) → AreNear60 m → bounds.given ≤ 2 ^ 36 → levels ≤ 32 →
    HasRoom m bounds levels columns → AreRowMarks m bounds columns rows → (d : ℕ) → d < m.cells.rows →
    (levels + 1) * 2 ^ 38 + 1 + 2 ^ 60 ≤ potential_at rows d + 2 ^ 37
rows-high m bounds levels columns rows near small few has R d dm =
    row-high m bounds ((levels + 1) * 2 ^ 38 + 1) columns d (potential_at rows d) (mark_at rows d).maker near dm has.free.row_cap small
    (omega arith) has.each (R.each d dm).maker

pub no_low_column : (m : Priced) (bounds : Bounds) (levels : ℕ) (columns rows : List Mark) → AreNear60 m → bounds.given ≤ 2 ^ 36 →
    bounds.taken ≤ 2 ^ 36 →
    levels ≤ 32 → AreRowMarks m bounds columns rows → IsLowColumn m bounds rows columns → HasRoom m bounds levels columns → ⊥
no_low_column m bounds levels columns rows near given taken few R low has =
    let high : (levels + 1) * 2 ^ 38 + 1 ≤ low.mark.potential + 2 ^ 38
    = column-high m bounds ((levels + 1) * 2 ^ 38 + 1) rows (potential_at columns low.column) low.column low.mark.potential
    low.mark.maker near
    low.within taken (has.each low.column low.within) (rows-high m bounds levels columns rows near given few has R) low.is.maker in
    omega (arith, low.low, has.free.column_floor, high)

-- at the next level there is room for one level less
pub room-later : (m : Priced) (bounds : Bounds) (levels : ℕ) (columns rows lower : List Mark) → AreNear60 m → bounds.given ≤ 2 ^ 36 →
    bounds.taken ≤ 2 ^ 36 → levels + 1 ≤ 32 → AreRowMarks m bounds columns rows → AreColumnMarks m bounds rows columns lower →
    HasRoom m bounds (levels + 1) columns → HasRoom m bounds levels lower
room-later m bounds levels columns rows lower near given taken few R L has = record {
  free = has.free;
  each = λ g gn.
      let high : (levels + 1 + 1) * 2 ^ 38 + 1 ≤ potential_at lower g + 2 ^ 38
      = column-high m bounds ((levels + 1 + 1) * 2 ^ 38 + 1) rows (potential_at columns g) g (potential_at lower g) (mark_at lower
      g).maker near
      gn taken (has.each g gn) (rows-high m bounds (levels + 1) columns rows near given few has R) (L.each g gn).maker in
      omega arith;
}

-- the prices of seats are near 2^60
pub priced-near : (q : Question) (l : Logs) (seats : List ℕ) → AreLogs l → length l.of_votes ≡ q.rows * q.columns →
    length seats ≡ q.rows * q.columns → All (λ s. s ≤ 400) seats → AreNear60 (priced q l seats)
priced-near q l seats logs votes long few = record {
  next = λ d g dm gn.
      let within : d * q.columns + g < q.rows * q.columns = cell-within q.rows q.columns d g dm gn in
      omega (arith, logs.small_votes (d * q.columns + g) 0 (omega arith));
  last = λ d g dm gn.
      let within : d * q.columns + g < q.rows * q.columns = cell-within q.rows q.columns d g dm gn in
      let seat : cell q.columns seats d g ≤ 400 = few (d * q.columns + g) 0 (omega arith) in
      omega (arith, logs.small_odds (cell q.columns seats d g - 1) 0 (omega (arith, logs.enough)));
}
