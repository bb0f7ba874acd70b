-- The divisors of the first box are a function of the question and the seats.
use Rattle.std.proofs.Common.{◌≡◌, ℕ, ◌+◌, ◌-◌, ◌*◌, ◌^◌, ◌<◌, ◌≤◌, List, length, get_or, slice_index, inl, inr, sym, ap, subst, ◌∙◌, arith}
use Rattle.std.proofs.lemmas.Bool.{cases_lt, cases_order}
use Rattle.std.proofs.lemmas.List.{ext_get_or}
use Rattle.std.proofs.Math.Nat.{le_antisymm, pow-le-pow_right}
use Rattle.zh_decided.specs.Logarithms.{log_unit}
use Rattle.zh_decided.proofs.SquaringLemmas.{only-antilogarithm, only-logarithm}
use Rattle.zh_divisors.proofs.CallerLemmas.{same_table}
use Rattle.zh_matrices.specs.Divisors.{Divisors, millionths}
use Rattle.zh_matrices.specs.Fitting.{FitsVotes}
use Rattle.zh_matrices.specs.Question.{AreSeatTotals, Question}
use Rattle.zh_matrices.specs.SeatMatrix.{IsStrict}
use Rattle.zh_matrices.proofs.CallerLemmas.{only_seats, weakened}
use Rattle.zh_decided.proofs.ImpossibleLemmas.{fits-weak}
use Rattle.zh_decided.specs.Prices.{AreLogs, Logs, Priced, priced}
use Rattle.zh_decided.specs.Sweeps.{AreCapped, AreOut, IsCycle, IsLow, IsStill, of_column, of_row}
use Rattle.zh_decided.specs.Turns.{IsCheapest}
use Rattle.zh_decided.specs.declared.sweep_bounds.Bounds.{Bounds}
use Rattle.zh_decided.specs.declared.cycles.Cycle.{Cycle}
use Rattle.zh_decided.specs.declared.sweeps.Potentials.{Potentials}
use Rattle.zh_decided.proofs.CircleLemmas.{cycle-more, no_cycle, same-slacks}
use Rattle.zh_decided.proofs.CheapestLemmas.{only-cheapest}
use Rattle.zh_decided.specs.Boxes.{AreInBox, AreInFirstBox, GiveWithin, HaveLogs, IsBox, NoneGiven, StandsInBox}
use Rattle.zh_decided.specs.Tables.{AreLogTables, AreOddLogs, AreVoteLogs}

-- the tables of logarithms are unique
same-vote-logs : (votes a b : List ℕ) → AreVoteLogs votes a → AreVoteLogs votes b → b ≡ a
same-vote-logs votes a b A B = ext_get_or 0 b a (B.one_each ∙ sym A.one_each) (λ k lt.
    let there : k < length votes = omega (arith, B.one_each) in
    elim (cases_lt 0 (get_or votes k 0)) [
      | inl some ↦ only-logarithm (2 * get_or votes k 0) (get_or a k 0) (get_or b k 0) (A.logarithms_of k there some) (B.logarithms_of k there some)
      | inr none ↦ B.none k there (omega arith) ∙ sym (A.none k there (omega arith))
    ])

same-odd-logs : (a b : List ℕ) → length b ≡ length a → AreOddLogs a → AreOddLogs b → b ≡ a
same-odd-logs a b long A B = ext_get_or 0 b a long (λ j lt.
    only-logarithm (2 * j + 1) (get_or a j 0) (get_or b j 0) (A.logarithms_of j (omega (arith, long))) (B.logarithms_of j lt))

same-logs : (q : Question) (l k : Logs) → AreLogTables q l → AreLogTables q k → k ≡ l
same-logs q l k L K =
    ap (λ x. record { of_votes = x; of_odds = k.of_odds }) (same-vote-logs q.votes l.of_votes k.of_votes L.of_votes K.of_votes)
    ∙ ap (λ x. record { of_votes = l.of_votes; of_odds = x })
    (same-odd-logs l.of_odds k.of_odds (K.odd_numbers ∙ sym L.odd_numbers) L.of_odds K.of_odds)

-- the bounds of a box are unique
same-scale : (bits : ℕ) (b c : Bounds) (B : IsBox bits b) (C : IsBox bits c) → C.scale ≡ B.scale
same-scale bits b c B C = only-logarithm (10 ^ 12) B.scale C.scale B.scale_is C.scale_is

record AreSame (b c : Bounds) : Type 0 where
  given : b.given ≡ c.given
  taken : b.taken ≡ c.taken
  row_cap : b.row_cap ≡ c.row_cap
  column_cap : b.column_cap ≡ c.column_cap
  row_floor : b.row_floor ≡ c.row_floor
  column_floor : b.column_floor ≡ c.column_floor

same-bounds : (bits : ℕ) (b c : Bounds) → IsBox bits b → IsBox bits c → AreSame b c
same-bounds bits b c B C =
    let scale : C.scale ≡ B.scale = same-scale bits b c B C in
    let most : C.most ≡ B.most = only-logarithm (10 ^ 18) B.most C.most B.most_is C.most_is in
    record {
      given = B.given ∙ sym C.given;
      taken = B.taken ∙ sym C.taken;
      row_cap = omega (arith, B.row_cap, C.row_cap, scale);
      column_cap = omega (arith, B.column_cap, C.column_cap, scale);
      row_floor = omega (arith, B.row_floor, C.row_floor, scale, most);
      column_floor = B.column_floor ∙ sym C.column_floor;
    }

same-capped : (m : Priced) (b c : Bounds) (x y : ℕ → ℕ) → AreSame b c → AreCapped m b 0 x y → AreCapped m c 0 x y
same-capped m b c x y E A = record {
  rows = λ d dm. omega (arith, A.rows d dm, E.row_cap);
  columns = λ g gn. omega (arith, A.columns g gn, E.column_cap);
}

same-still : (m : Priced) (b c : Bounds) (p : Potentials) → AreSame b c → AreSame c b → IsStill m b p → IsStill m c p
same-still m b c p E F S = record {
  fair = same-slacks m b c 0 0 (of_row p) (of_column p) E.given E.taken S.fair;
  capped = same-capped m b c (of_row p) (of_column p) E S.capped;
  row_floors = λ d dm. omega (arith, S.row_floors d dm, E.row_floor);
  column_floors = λ g gn. omega (arith, S.column_floors g gn, E.column_floor);
  greatest_rows = λ x y fair capped. S.greatest_rows x y (same-slacks m c b 0 0 x y F.given F.taken fair) (same-capped m c b x y F capped);
  greatest_columns = λ x y fair capped. S.greatest_columns x y (same-slacks m c b 0 0 x y F.given F.taken fair) (same-capped m c b x y F capped);
}

-- if the sweep within a box does not end at potentials, the box has none
still-here : (q : Question) (l : Logs) (seats : List ℕ) (bits : ℕ) (bounds : Bounds) (p : Potentials) → IsBox bits bounds →
    StandsInBox q l seats bits p → IsStill (priced q l seats) bounds p
still-here q l seats bits bounds p B S =
    same-still (priced q l seats) S.bounds bounds p (same-bounds bits S.bounds bounds S.box B) (same-bounds bits bounds S.bounds B S.box) S.still

not-low : (m : Priced) (bounds : Bounds) (e : ℕ) (p : Potentials) → e ≡ 0 → IsStill m bounds p → ¬ IsLow m bounds e (of_row p) (of_column p)
not-low m bounds e p none S (inl low) = omega (arith, low.2, S.row_floors low.0 low.1)
not-low m bounds e p none S (inr low) = omega (arith, low.2, S.column_floors low.0 low.1)

pub not-out : (q : Question) (l : Logs) (seats : List ℕ) (bits : ℕ) (bounds : Bounds) → IsBox bits bounds →
    AreOut (priced q l seats) bounds q.columns (λ g. bounds.column_cap) → (p : Potentials) → ¬ StandsInBox q l seats bits p
not-out q l seats bits bounds B out p S =
    let here : IsStill (priced q l seats) bounds p = still-here q l seats bits bounds p B S in
    let none : 0 + (q.columns + 1) * (0 + 0) ≡ 0 = omega arith in
    not-low (priced q l seats) bounds (0 + (q.columns + 1) * (0 + 0)) p none here
    (out 0 0 0 (of_row p) (of_column p) here.fair here.capped.rows (λ g gn. here.capped.columns g gn))

pub not-cycle : (q : Question) (l : Logs) (seats : List ℕ) (bits : ℕ) (bounds : Bounds) (cycle : Cycle) → IsBox bits bounds →
    IsCycle (priced q l seats) (bounds.given + bounds.taken) cycle → (p : Potentials) → ¬ StandsInBox q l seats bits p
not-cycle q l seats bits bounds cycle B C p S =
    no_cycle (priced q l seats) bounds cycle (of_row p) (of_column p) (still-here q l seats bits bounds p B S).fair C

-- if it does, the divisors are the antilogarithms of its potentials
pub in-box : (q : Question) (l : Logs) (seats : List ℕ) (bits m n top : ℕ) (bounds : Bounds) (p : Potentials) (of_rows of_columns : List ℕ) →
    m ≡ q.rows → n ≡ q.columns → top ≡ bounds.row_cap + bits * log_unit → IsBox bits bounds → IsStill (priced q l seats) bounds p →
    HaveLogs bits (10 ^ 18) m of_rows (λ i. top - slice_index p.of_rows i) → HaveLogs bits (10 ^ 12) n of_columns (slice_index p.of_columns) →
    AreInBox q l seats bits of_rows of_columns
in-box q l seats bits m n top bounds p of_rows of_columns rows-are columns-are top-is B S R C =
    let top-at : top ≡ 2 ^ 60 + B.scale = top-is ∙ B.row_cap in
    record {
      potentials = p;
      stands = record { bounds = bounds; box = B; still = S };
      rows = λ d dm. rw top-at at (R.antilogarithms d (omega arith));
      columns = λ g gn. C.antilogarithms g (omega arith);
    }

-- the greatest potentials within bounds are unique
same-rows : (m : Priced) (bounds : Bounds) (p r : Potentials) → IsStill m bounds p → IsStill m bounds r → (d : ℕ) → d < m.cells.rows →
    of_row r d ≡ of_row p d
same-rows m bounds p r P R d dm = le_antisymm (P.greatest_rows (of_row r) (of_column r) R.fair R.capped d dm)
    (R.greatest_rows (of_row p) (of_column p) P.fair P.capped d dm)

same-columns : (m : Priced) (bounds : Bounds) (p r : Potentials) → IsStill m bounds p → IsStill m bounds r → (g : ℕ) → g < m.cells.columns →
    of_column r g ≡ of_column p g
same-columns m bounds p r P R g gn = le_antisymm (P.greatest_columns (of_row r) (of_column r) R.fair R.capped g gn)
    (R.greatest_columns (of_row p) (of_column p) P.fair P.capped g gn)

-- the divisors of a box are unique
row-of-box : (q : Question) (l : Logs) (seats : List ℕ) (bits : ℕ) (of_rows of_columns rows columns : List ℕ) →
    AreInBox q l seats bits of_rows of_columns → AreInBox q l seats bits rows columns → (d : ℕ) → d < q.rows →
    slice_index rows d ≡ slice_index of_rows d
row-of-box q l seats bits of_rows of_columns rows columns A B d dm =
    let scale : B.stands.box.scale ≡ A.stands.box.scale = same-scale bits A.stands.bounds B.stands.bounds A.stands.box B.stands.box in
    let here : IsStill (priced q l seats) A.stands.bounds B.potentials
    = still-here q l seats bits A.stands.bounds B.potentials A.stands.box B.stands in
    let potential : of_row B.potentials d ≡ of_row A.potentials d
    = same-rows (priced q l seats) A.stands.bounds A.potentials B.potentials A.stands.still here d dm in
    let logarithm : 2 ^ 60 + B.stands.box.scale - of_row B.potentials d ≡ 2 ^ 60 + A.stands.box.scale - of_row A.potentials d
    = omega (arith, scale, potential) in
    only-antilogarithm (2 ^ 60 + A.stands.box.scale - of_row A.potentials d) (10 ^ 18) (slice_index of_rows d) (slice_index rows d) (A.rows d dm)
    (rw logarithm at (B.rows d dm))

column-of-box : (q : Question) (l : Logs) (seats : List ℕ) (bits : ℕ) (of_rows of_columns rows columns : List ℕ) →
    AreInBox q l seats bits of_rows of_columns → AreInBox q l seats bits rows columns → (g : ℕ) → g < q.columns →
    slice_index columns g ≡ slice_index of_columns g
column-of-box q l seats bits of_rows of_columns rows columns A B g gn =
    let here : IsStill (priced q l seats) A.stands.bounds B.potentials
    = still-here q l seats bits A.stands.bounds B.potentials A.stands.box B.stands in
    let potential : of_column B.potentials g ≡ of_column A.potentials g
    = same-columns (priced q l seats) A.stands.bounds A.potentials B.potentials A.stands.still here g gn in
    only-antilogarithm (of_column A.potentials g) (10 ^ 12) (slice_index of_columns g) (slice_index columns g) (A.columns g gn)
    (rw potential at (B.columns g gn))

-- the first box is unique
same-place : (q : Question) (seats of_rows of_columns rows columns : List ℕ) (A : AreInFirstBox q seats of_rows of_columns)
    (B : AreInFirstBox q seats rows columns) → B.logs ≡ A.logs → B.smaller ≡ A.smaller
same-place q seats of_rows of_columns rows columns A B logs = elim (cases_order A.smaller B.smaller) [
  | inl same ↦ sym same
  | inr (inl less) ↦ absurd (B.before A.smaller less A.in_box.potentials (rw logs A.in_box.stands))
  | inr (inr more) ↦ absurd (A.before B.smaller more B.in_box.potentials (rw (← logs) B.in_box.stands))
]

same-box : (q : Question) (seats of_rows of_columns rows columns : List ℕ) (A : AreInFirstBox q seats of_rows of_columns) →
    AreInFirstBox q seats rows columns → AreInBox q A.logs seats (20 - 4 * A.smaller) rows columns
same-box q seats of_rows of_columns rows columns A B =
    let logs : B.logs ≡ A.logs = same-logs q A.logs B.logs A.tables B.tables in
    rw (logs, same-place q seats of_rows of_columns rows columns A B logs) at B.in_box

-- the divisors of the first box are unique
pub only-rows : (q : Question) (of_rows of_columns rows columns seats : List ℕ) → GiveWithin q of_rows of_columns seats →
    GiveWithin q rows columns seats → rows ≡ of_rows
only-rows q of_rows of_columns rows columns seats A B =
    ext_get_or 0 rows of_rows (B.limits.rows.one_each ∙ sym A.limits.rows.one_each) (λ d lt.
    row-of-box q A.first.logs seats (20 - 4 * A.first.smaller) of_rows of_columns rows columns A.first.in_box
    (same-box q seats of_rows of_columns rows columns A.first B.first) d (omega (arith, B.limits.rows.one_each)))

pub only-columns : (q : Question) (of_rows of_columns rows columns seats : List ℕ) → GiveWithin q of_rows of_columns seats →
    GiveWithin q rows columns seats → columns ≡ of_columns
only-columns q of_rows of_columns rows columns seats A B =
    ext_get_or 0 columns of_columns (B.limits.columns.one_each ∙ sym A.limits.columns.one_each) (λ g lt.
    column-of-box q A.first.logs seats (20 - 4 * A.first.smaller) of_rows of_columns rows columns A.first.in_box
    (same-box q seats of_rows of_columns rows columns A.first B.first) g (omega (arith, B.limits.columns.one_each)))

-- if the sweep ends at potentials in none of the boxes, there is no first box
pub outside : (q : Question) (l : Logs) (seats : List ℕ) → AreLogTables q l →
    ((k : ℕ) → k < 5 → (p : Potentials) → ¬ StandsInBox q l seats (20 - 4 * k) p) → (rows columns : List ℕ) → ¬ AreInFirstBox q seats rows columns
outside q l seats T moves rows columns first =
    let logs : first.logs ≡ l = same-logs q l first.logs T first.tables in
    moves first.smaller first.few first.in_box.potentials (rw (← logs) first.in_box.stands)

-- if these seats are the only ones and have no first box, no divisors are given for any seats
pub none-given : (q : Question) (x : Divisors) (seats : List ℕ) → IsStrict q x seats →
    ((rows columns : List ℕ) → ¬ AreInFirstBox q seats rows columns) → NoneGiven q
none-given q x seats strict none rows columns others given =
    let only : others ≡ seats
    = only_seats q x (millionths rows columns) seats others strict (weakened q (millionths rows columns) others given.strict) in
    none rows columns (subst (λ (s : List ℕ). AreInFirstBox q s rows columns) only given.first)

-- nor are any given if these seats cost least and have a cycle at the smallest slack of the boxes
least-slack : (bits : ℕ) (bounds : Bounds) → bits ≤ 20 → IsBox bits bounds → 4102 ≤ bounds.given
least-slack bits bounds few B =
    let le : 2 ^ 12 ≤ 2 ^ (32 - bits) = pow-le-pow_right {n = 2} (omega arith) {i = 12} {j = 32 - bits} (omega arith) in
    omega (arith, le, B.given)

pub none-near : (q : Question) (l : Logs) (seats : List ℕ) (cycle : Cycle) → AreLogs l → AreLogTables q l → AreSeatTotals q.rows q.row_totals →
    FitsVotes q seats → IsCheapest q l seats → IsCycle (priced q l seats) 4108 cycle → NoneGiven q
none-near q l seats cycle A T totals F cheapest C rows columns others given =
    let logs : given.first.logs ≡ l = same-logs q l given.first.logs T given.first.tables in
    let bounds : Bounds = given.first.in_box.stands.bounds in
    let box : IsBox (20 - 4 * given.first.smaller) bounds = given.first.in_box.stands.box in
    let p : Potentials = given.first.in_box.potentials in
    let still : IsStill (priced q l others) bounds p = rw logs at given.first.in_box.stands.still in
    let slack : 4102 ≤ bounds.given = least-slack (20 - 4 * given.first.smaller) bounds (omega arith) box in
    let G : FitsVotes q others = fits-weak q (millionths rows columns) others (weakened q (millionths rows columns) others given.strict) in
    let same : seats ≡ others = same_table q.rows q.columns seats others F.one_each G.one_each
    (only-cheapest q l bounds others seats (of_row p) (of_column p) A totals still.fair (omega (arith, slack)) (omega (arith, box.taken)) G F
    (cheapest others G)) in
    let here : IsCycle (priced q l others) 4108 cycle = rw same at C in
    no_cycle (priced q l others) bounds cycle (of_row p) (of_column p) still.fair
    (cycle-more (priced q l others) 4108 (bounds.given + bounds.taken) cycle (omega (arith, slack, box.taken)) here)
