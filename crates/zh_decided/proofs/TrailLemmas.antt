-- A trail that goes one level further back, and what lowered its rows and columns.
use Rattle.std.proofs.Common.{◌≡◌, ◌≢◌, ℕ, ◌+◌, ◌-◌, ◌<◌, ◌≤◌, Option, Some, None, cond, ltb, List, inl, inr, refl, sym, subst, arith}
use Rattle.std.proofs.lemmas.Bool.{cases_eq, cond_above, cond_below}
use Rattle.zh_decided.specs.Levels.{AreColumnMarks, AreRowMarks, IsRowMaker, IsTrail, MakesColumn, MakesRow, mark_at, potential_at}
use Rattle.zh_decided.specs.Prices.{Priced}
use Rattle.zh_decided.specs.Sweeps.{step_at}
use Rattle.zh_decided.specs.declared.sweep_bounds.Bounds.{Bounds}
use Rattle.zh_decided.specs.declared.cycles.Transfer.{Transfer}
use Rattle.zh_decided.specs.declared.prices.Mark.{Mark}
use Rattle.zh_decided.specs.declared.cycles.Trail.{Trail}
use Rattle.zh_decided.proofs.MarkLemmas.{IsColumnMaker}

-- what lowered a row or a column
row-uncapped : (m : Priced) (bounds : Bounds) (columns : List Mark) (d potential : ℕ) (maker : Option ℕ) →
    IsRowMaker m bounds columns d potential maker → potential < bounds.row_cap → maker ≡ None → ⊥
row-uncapped m bounds columns d potential None made low is = omega arith
row-uncapped m bounds columns d potential (Some g) made low is = cc

row-made : (m : Priced) (bounds : Bounds) (columns : List Mark) (d potential g : ℕ) (maker : Option ℕ) →
    IsRowMaker m bounds columns d potential maker → maker ≡ Some g → MakesRow m bounds columns d potential g
row-made m bounds columns d potential g maker made is =
    let P : Option ℕ → Type 0 = λ o. IsRowMaker m bounds columns d potential o in
    subst P is made

pub column-fell : (m : Priced) (bounds : Bounds) (rows : List Mark) (before g potential : ℕ) (maker : Option ℕ) →
    IsColumnMaker m bounds rows before g potential maker → potential < before → maker ≡ None → ⊥
column-fell m bounds rows before g potential None made low is = omega arith
column-fell m bounds rows before g potential (Some d) made low is = cc

pub column-kept : (m : Priced) (bounds : Bounds) (rows : List Mark) (before g potential : ℕ) (maker : Option ℕ) →
    IsColumnMaker m bounds rows before g potential maker → maker ≡ None → potential ≡ before
column-kept m bounds rows before g potential None made is = made
column-kept m bounds rows before g potential (Some d) made is = cc

pub column-made : (m : Priced) (bounds : Bounds) (rows : List Mark) (before g potential d : ℕ) (maker : Option ℕ) →
    IsColumnMaker m bounds rows before g potential maker → maker ≡ Some d →
    (potential < before) × MakesColumn m bounds rows g potential d
column-made m bounds rows before g potential d maker made is =
    let P : Option ℕ → Type 0 = λ o. IsColumnMaker m bounds rows before g potential o in
    subst P is made

-- the last step of a trail
abbrev pub last_step : Trail → Transfer
last_step trail = step_at trail.steps (trail.length - 1)

-- the potential of the last giver at the earliest level of the trail
abbrev pub last_potential : (m : Priced) (bounds : Bounds) (columns : List Mark) (trail : Trail) → IsTrail m bounds columns trail → ℕ
last_potential m bounds columns trail T =
    T.value (trail.length - 1) + m.last (last_step trail).giver (last_step trail).column + bounds.taken

-- it was higher one level before
giver-fell : (m : Priced) (bounds : Bounds) (columns rows lower : List Mark) (trail : Trail) (T : IsTrail m bounds lower trail) →
    1 ≤ bounds.column_floor →
    AreColumnMarks m bounds rows columns lower → last_potential m bounds lower trail T < potential_at rows (last_step trail).giver
giver-fell m bounds columns rows lower trail T positive L =
    let within : trail.length - 1 < trail.length = omega (arith, T.some) in
    let g : ℕ = (last_step trail).column in
    let gn : g < m.cells.columns = T.column (trail.length - 1) within in
    let taken : potential_at lower g ≤ potential_at rows (last_step trail).giver - (m.last (last_step trail).giver g + bounds.taken)
    = (L.each g gn).taken (last_step trail).giver (T.giver (trail.length - 1) within) (T.seat (trail.length - 1) within) in
    omega (arith, T.below (trail.length - 1) within, L.floors g gn, taken)

-- so a column lowered it
pub source-there : (m : Priced) (bounds : Bounds) (columns rows lower : List Mark) (trail : Trail) → IsTrail m bounds lower trail →
    1 ≤ bounds.column_floor →
    AreRowMarks m bounds columns rows → AreColumnMarks m bounds rows columns lower → trail.source ≡ None → ⊥
source-there m bounds columns rows lower trail T positive R L none =
    let within : trail.length - 1 < trail.length = omega (arith, T.some) in
    let cap : potential_at rows (last_step trail).giver ≤ bounds.row_cap = (R.each (last_step trail).giver (T.giver (trail.length - 1)
    within)).capped in
    row-uncapped m bounds lower (last_step trail).giver (last_potential m bounds lower trail T) trail.source T.source
    (omega (arith, cap, giver-fell m bounds columns rows lower trail T positive L)) none

pub source-of : (m : Priced) (bounds : Bounds) (lower : List Mark) (trail : Trail) (f : ℕ) (T : IsTrail m bounds lower trail) →
    trail.source ≡ Some f →
    MakesRow m bounds lower (last_step trail).giver (last_potential m bounds lower trail T) f
source-of m bounds lower trail f T is =
    row-made m bounds lower (last_step trail).giver (last_potential m bounds lower trail T) f trail.source T.source is

-- that column fell at this level
source-fell : (m : Priced) (bounds : Bounds) (columns rows lower : List Mark) (trail : Trail) (f : ℕ) → IsTrail m bounds lower trail →
    1 ≤ bounds.column_floor →
    AreRowMarks m bounds columns rows → AreColumnMarks m bounds rows columns lower → trail.source ≡ Some f →
    potential_at lower f < potential_at columns f
source-fell m bounds columns rows lower trail f T positive R L is =
    let within : trail.length - 1 < trail.length = omega (arith, T.some) in
    let S : MakesRow m bounds lower (last_step trail).giver (last_potential m bounds lower trail T) f = source-of m bounds lower trail f
    T is in
    let given : potential_at rows (last_step trail).giver + bounds.given ≤ potential_at columns f + m.next (last_step trail).giver f
    = (R.each (last_step trail).giver (T.giver (trail.length - 1) within)).given f S.column S.votes in
    omega (arith, given, S.made, giver-fell m bounds columns rows lower trail T positive L)

pub source-made : (m : Priced) (bounds : Bounds) (columns rows lower : List Mark) (trail : Trail) (f : ℕ) →
    IsTrail m bounds lower trail → 1 ≤ bounds.column_floor →
    AreRowMarks m bounds columns rows → AreColumnMarks m bounds rows columns lower → trail.source ≡ Some f →
    (mark_at lower f).maker ≡ None → ⊥
source-made m bounds columns rows lower trail f T positive R L is none =
    column-fell m bounds rows (potential_at columns f) f (potential_at lower f) (mark_at lower f).maker
    (L.each f (source-of m bounds lower trail f T is).column).maker (source-fell m bounds columns rows lower trail f T positive R L is) none

-- the values of a trail with one more step
valued : ℕ → ℕ → (ℕ → ℕ) → ℕ → ℕ
valued n more value k = cond (ltb k n) (value k) more

valued-before : (n more k : ℕ) (value : ℕ → ℕ) → k < n → valued n more value k ≡ value k
unfolding valued
valued-before n more k value lt = sym (cond_below k n (value k) more lt)

valued-here : (n more k : ℕ) (value : ℕ → ℕ) → k ≡ n → valued n more value k ≡ more
unfolding valued
valued-here n more k value is = sym (cond_above k n (value k) more more (omega arith) refl)

-- the row that lowered a column, and what lowered that row
made-row : (m : Priced) (bounds : Bounds) (columns rows lower : List Mark) (f d : ℕ) → 1 ≤ bounds.column_floor → f < m.cells.columns →
    AreRowMarks m bounds columns rows → AreColumnMarks m bounds rows columns lower → MakesColumn m bounds rows f (potential_at lower f) d →
    IsRowMaker m bounds columns d (potential_at lower f + m.last d f + bounds.taken) (mark_at rows d).maker
made-row m bounds columns rows lower f d positive fn R L D =
    let P : ℕ → Type 0 = λ potential. IsRowMaker m bounds columns d potential (mark_at rows d).maker in
    subst P (omega (arith, D.made, L.floors f fn)) (R.each d D.row).maker

-- a trail of one step, at the last level
pub IsTrail-new : (m : Priced) (bounds : Bounds) (columns rows lower : List Mark) (trail : Trail) (f d : ℕ) →
    1 ≤ bounds.column_floor → f < m.cells.columns →
    AreRowMarks m bounds columns rows → AreColumnMarks m bounds rows columns lower → (mark_at lower f).maker ≡ Some d →
    trail.length ≡ 1 → (step_at trail.steps 0).giver ≡ d → (step_at trail.steps 0).column ≡ f → trail.source ≡ (mark_at rows d).maker →
    IsTrail m bounds columns trail
IsTrail-new m bounds columns rows lower trail f d positive fn R L made one giver column source =
    let (fell, D)
    = column-made m bounds rows (potential_at columns f) f (potential_at lower f) d (mark_at lower f).maker (L.each f fn).maker made in
    let first : (k : ℕ) → k < trail.length → k ≡ 0 = λ k lt. omega arith in
    record {
      value = λ k. potential_at lower f;
      some = omega arith;
      few = omega arith;
      giver = λ k lt. rw (first k lt, giver) D.row;
      column = λ k lt. rw (first k lt, column) fn;
      seat = λ k lt. rw (first k lt, giver, column) D.seat;
      below = λ k lt. rw (first k lt, column) fell;
      differ = λ j k jk lt. absurd (omega arith);
      joined = λ k lt. absurd (omega arith);
      votes = λ k lt. absurd (omega arith);
      along = λ k lt. absurd (omega arith);
      source = rw (one, giver, column, source) (made-row m bounds columns rows lower f d positive fn R L D);
    }

-- `more` is the trail with one more step
pub record HasMore (trail more : Trail) (giver column : ℕ) : Type 0 where
  pub length : more.length ≡ trail.length + 1
  pub same : (k : ℕ) → k < trail.length → step_at more.steps k ≡ step_at trail.steps k
  pub step : step_at more.steps trail.length ≡ record {
    giver = giver;
    column = column;
    taker = (step_at trail.steps (trail.length -
        1)).giver;
  }

pub IsTrail-more : (m : Priced) (bounds : Bounds) (columns rows lower : List Mark) (trail more : Trail) (f d : ℕ) →
    1 ≤ bounds.column_floor →
    AreRowMarks m bounds columns rows → AreColumnMarks m bounds rows columns lower → IsTrail m bounds lower trail → trail.length ≤ 32 →
    trail.source ≡ Some f → (mark_at lower f).maker ≡ Some d → ((k : ℕ) → k < trail.length → (step_at trail.steps k).column ≢ f) →
    HasMore trail more d f → more.source ≡ (mark_at rows d).maker → IsTrail m bounds columns more
IsTrail-more m bounds columns rows lower trail more f d positive R L T few from made nowhere M source =
    let n : ℕ = trail.length in
    let S : MakesRow m bounds lower (last_step trail).giver (last_potential m bounds lower trail T) f = source-of m bounds lower trail f
    T from in
    let (fell, D)
    = column-made m bounds rows (potential_at columns f) f (potential_at lower f) d (mark_at lower f).maker (L.each f S.column).maker
    made in
    let before : (k : ℕ) → k < trail.length → valued n (potential_at lower f) T.value k ≡ T.value k
    = λ k lt. valued-before n (potential_at lower f) k T.value lt in
    let here : valued n (potential_at lower f) T.value n ≡ potential_at lower f = valued-here n (potential_at lower f) n T.value refl in
    record {
      value = valued n (potential_at lower f) T.value;
      some = omega (arith, M.length);
      few = omega (arith, M.length);
      giver = λ k lt. elim (cases_eq k n) [
        | inl is ↦ rw (is, M.step) D.row
        | inr not ↦ rw (M.same k (omega (arith, M.length))) (T.giver k (omega (arith, M.length)))
      ];
      column = λ k lt. elim (cases_eq k n) [
        | inl is ↦ rw (is, M.step) S.column
        | inr not ↦ rw (M.same k (omega (arith, M.length))) (T.column k (omega (arith, M.length)))
      ];
      seat = λ k lt. elim (cases_eq k n) [
        | inl is ↦ rw (is, M.step) D.seat
        | inr not ↦ rw (M.same k (omega (arith, M.length))) (T.seat k (omega (arith, M.length)))
      ];
      below = λ k lt. elim (cases_eq k n) [
        | inl is ↦ rw (is, here, M.step) fell
        | inr not ↦
            let old : k < trail.length = omega (arith, M.length) in
            rw (before k old, M.same k old) (omega (arith, T.below k old, (L.each (step_at trail.steps k).column (T.column k old)).falls))
      ];
      differ = λ j k jk lt. elim (cases_eq k n) [
        | inl is ↦ rw (is, M.step, M.same j (omega (arith, M.length))) (nowhere j (omega (arith, M.length)))
        | inr not ↦
            rw (M.same j (omega (arith, M.length)), M.same k (omega (arith, M.length))) (T.differ j k jk (omega (arith, M.length)))
      ];
      joined = λ k lt. elim (cases_eq (k + 1) n) [
        | inl is ↦
            let last : k ≡ trail.length - 1 = omega arith in
            rw (is, M.step, M.same k (omega arith), last) refl
        | inr not ↦ rw (M.same k (omega (arith, M.length)), M.same (k + 1) (omega (arith, M.length))) (T.joined k (omega (arith, M.length)))
      ];
      votes = λ k lt. elim (cases_eq (k + 1) n) [
        | inl is ↦
            let last : k ≡ trail.length - 1 = omega arith in
            rw (is, M.step, M.same k (omega arith), last) S.votes
        | inr not ↦ rw (M.same k (omega (arith, M.length)), M.same (k + 1) (omega (arith, M.length))) (T.votes k (omega (arith, M.length)))
      ];
      along = λ k lt. elim (cases_eq (k + 1) n) [
        | inl is ↦
            let last : k ≡ trail.length - 1 = omega arith in
            rw (before k (omega arith), is, here, M.step, M.same k (omega arith), last) (omega (arith, S.made))
        | inr not ↦
            rw (
              before k (omega (arith, M.length)),
              before (k + 1) (omega (arith, M.length)),
              M.same k (omega (arith, M.length)),
              M.same (k + 1) (omega (arith, M.length)),
            ) (T.along k (omega (arith, M.length)))
      ];
      source =
          let last : more.length - 1 ≡ n = omega (arith, M.length) in
          rw (last, here, M.step, source) (made-row m bounds columns rows lower f d positive S.column R L D);
    }
