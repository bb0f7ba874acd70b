-- Potentials that begin above others stay above them, less a fixed amount per level.
use Rattle.std.proofs.Common.{◌≡◌, ℕ, ◌+◌, ◌*◌, ◌<◌, ◌≤◌, Option, Some, None, List, inr, arith}
use Rattle.zh_decided.specs.Levels.{AreColumnMarks, AreRowMarks, IsColumnMark, IsLowColumn, IsRowMaker, IsRowMark, mark_at, potential_at}
use Rattle.zh_decided.specs.Prices.{Priced}
use Rattle.zh_decided.specs.Sweeps.{AreFair, AreOut, IsLow}
use Rattle.zh_decided.specs.declared.sweep_bounds.Bounds.{Bounds}
use Rattle.zh_decided.specs.declared.prices.Mark.{Mark}
use Rattle.zh_decided.proofs.MarkLemmas.{IsColumnMaker}

row-by : (m : Priced) (bounds : Bounds) (columns : List Mark) (a b e : ℕ) (x y : ℕ → ℕ) (d potential : ℕ) (maker : Option ℕ) →
    AreFair m bounds a b x y → d < m.cells.rows → x d ≤ bounds.row_cap + e → ((g : ℕ) → g < m.cells.columns →
    y g ≤ potential_at columns g + e) →
    IsRowMaker m bounds columns d potential maker → x d ≤ potential + (e + a)
row-by m bounds columns a b e x y d potential None fair dm cap above made = omega arith
row-by m bounds columns a b e x y d potential (Some g) fair dm cap above made =
    omega (arith, above g made.column, fair.given d g dm made.column made.votes, made.made)

column-by : (m : Priced) (bounds : Bounds) (rows : List Mark) (a b e : ℕ) (x y : ℕ → ℕ) (before g potential : ℕ) (maker : Option ℕ) →
    AreFair m bounds a b x y → g < m.cells.columns → y g ≤ before + e → ((d : ℕ) → d < m.cells.rows → x d ≤ potential_at rows d + (e + a)) →
    IsColumnMaker m bounds rows before g potential maker → y g ≤ potential + (e + (a + b))
column-by m bounds rows a b e x y before g potential None fair gn start above made = omega arith
column-by m bounds rows a b e x y before g potential (Some d) fair gn start above made =
    omega (arith, above d made.1.row, fair.taken d g made.1.row gn made.1.seat, made.1.made)

pub row-above : (m : Priced) (bounds : Bounds) (columns : List Mark) (a b e : ℕ) (x y : ℕ → ℕ) (d : ℕ) (mark : Mark) →
    AreFair m bounds a b x y → d < m.cells.rows → x d ≤ bounds.row_cap + e → ((g : ℕ) → g < m.cells.columns →
    y g ≤ potential_at columns g + e) →
    IsRowMark m bounds columns d mark → x d ≤ mark.potential + (e + a)
row-above m bounds columns a b e x y d mark fair dm cap above is =
    row-by m bounds columns a b e x y d mark.potential mark.maker fair dm cap above is.maker

pub column-above : (m : Priced) (bounds : Bounds) (rows : List Mark) (a b e : ℕ) (x y : ℕ → ℕ) (before g : ℕ) (mark : Mark) →
    AreFair m bounds a b x y → g < m.cells.columns → y g ≤ before + e → ((d : ℕ) → d < m.cells.rows → x d ≤ potential_at rows d + (e + a)) →
    IsColumnMark m bounds rows before g mark → y g ≤ mark.potential + (e + (a + b))
column-above m bounds rows a b e x y before g mark fair gn start above is =
    column-by m bounds rows a b e x y before g mark.potential mark.maker fair gn start above is.maker

one_level : (n c : ℕ) → (n + 1) * c ≡ c + n * c
one_level n c = omega arith

pub rows-above : (m : Priced) (bounds : Bounds) (columns rows : List Mark) (a b e : ℕ) (x y : ℕ → ℕ) → AreRowMarks m bounds columns rows →
    AreFair m bounds a b x y → ((d : ℕ) → d < m.cells.rows → x d ≤ bounds.row_cap + e) →
    ((g : ℕ) → g < m.cells.columns → y g ≤ potential_at columns g + e) → (d : ℕ) → d < m.cells.rows → x d ≤ potential_at rows d + (e + a)
rows-above m bounds columns rows a b e x y marks fair cap above d dm =
    row-above m bounds columns a b e x y d (mark_at rows d) fair dm (cap d dm) above (marks.each d dm)

-- a column below its floor
pub out-column : (m : Priced) (bounds : Bounds) (levels : ℕ) (columns rows : List Mark) → AreRowMarks m bounds columns rows →
    IsLowColumn m bounds rows columns → AreOut m bounds levels (potential_at columns)
out-column m bounds levels columns rows marks low a b e x y fair cap above =
    let above_column : y low.column ≤ low.mark.potential + (e + (a + b))
    = column-above m bounds rows a b e x y (potential_at columns low.column) low.column low.mark fair low.within
    (above low.column low.within) (rows-above m bounds columns rows a b e x y marks fair cap above) low.is in
    inr (low.column, low.within, omega (arith, above_column, low.low, one_level levels (a + b)))

pub columns-above : (m : Priced) (bounds : Bounds) (columns rows lower : List Mark) (a b e : ℕ) (x y : ℕ → ℕ) →
    AreRowMarks m bounds columns rows → AreColumnMarks m bounds rows columns lower →
    AreFair m bounds a b x y → ((d : ℕ) → d < m.cells.rows → x d ≤ bounds.row_cap + e) →
    ((g : ℕ) → g < m.cells.columns → y g ≤ potential_at columns g + e) → (g : ℕ) → g < m.cells.columns →
    y g ≤ potential_at lower g + (e + (a + b))
columns-above m bounds columns rows lower a b e x y row_marks marks fair cap above g gn =
    column-above m bounds rows a b e x y (potential_at columns g) g (mark_at lower g) fair gn (above g gn)
    (rows-above m bounds columns rows a b e x y row_marks fair cap above) (marks.each g gn)

low-more : (m : Priced) (bounds : Bounds) (e f : ℕ) (x y : ℕ → ℕ) → e ≡ f → IsLow m bounds e x y → IsLow m bounds f x y
low-more m bounds e f x y same low = rw (← same) low

-- the same, seen from one level before
pub out-later : (m : Priced) (bounds : Bounds) (levels : ℕ) (columns rows lower : List Mark) → AreRowMarks m bounds columns rows →
    AreColumnMarks m bounds rows columns lower → AreOut m bounds levels (potential_at lower) →
    AreOut m bounds (levels + 1) (potential_at columns)
out-later m bounds levels columns rows lower row_marks marks out a b e x y fair cap above =
    low-more m bounds (e + (a + b) + (levels + 1) * (a + b)) (e + (levels + 1 + 1) * (a + b)) x y
    (omega (arith, one_level (levels + 1) (a + b)))
    (out a b (e + (a + b)) x y fair (λ d dm. omega (arith, cap d dm))
    (columns-above m bounds columns rows lower a b e x y row_marks marks fair cap above))
