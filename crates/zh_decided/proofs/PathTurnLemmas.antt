-- Seats that are placed, and seats that move from row to row.
use Rattle.std.proofs.Common.{◌≡◌, ◌≢◌, ℕ, ◌+◌, ◌-◌, ◌*◌, ◌<◌, ◌⊎◌, List, length, set, inl, inr, sym, ◌∙◌, arith}
use Rattle.std.proofs.lemmas.Bool.{cases_eq}
use Rattle.std.proofs.lemmas.List.{get_or-set_other, get_or-set_same, length-set}
use Rattle.zh_divisors.proofs.CallerLemmas.{cell-within, same_place, sum_to-ext, sum_to-le}
use Rattle.zh_matrices.specs.Question.{Question, cell}
use Rattle.zh_decided.specs.Bounds.{AreAtLeast, AreAtMost, CellBounds}
use Rattle.zh_decided.specs.Ways.{ArePlaced, ColumnLacks, IsAboveLeast, IsOneMore, IsPassed, RowLacks, column_seats, placed, row_seats}
use Rattle.zh_decided.proofs.OneMoreLemmas.{sum_to-one_more}

-- cells of different rows, or of different columns, have different places
pub rows-differ : (n d g e f : ℕ) → g < n → f < n → e ≢ d → e * n + f ≢ d * n + g
rows-differ n d g e f gn fn differ same = differ (same_place n e f d g fn gn same).0

pub columns-differ : (n d g e f : ℕ) → g < n → f < n → f ≢ g → e * n + f ≢ d * n + g
columns-differ n d g e f gn fn differ same = differ (same_place n e f d g fn gn same).1

pub IsOneMore-given : (q : Question) (seats : List ℕ) (d g : ℕ) → length seats ≡ q.rows * q.columns → d < q.rows → g < q.columns →
    IsOneMore q seats (set seats (d * q.columns + g) (cell q.columns seats d g + 1)) d g
IsOneMore-given q seats d g long dm gn =
    let at : ℕ = d * q.columns + g in
    let within : d * q.columns + g < length seats = omega (arith, long, cell-within q.rows q.columns d g dm gn) in
    record {
      one_each = length-set seats at (cell q.columns seats d g + 1);
      here = get_or-set_same seats at (cell q.columns seats d g + 1) 0 within;
      rows = λ e f em fn differ. get_or-set_other seats at (e * q.columns + f) (cell q.columns seats d g + 1) 0 (rows-differ q.columns d g e f gn fn differ);
      columns = λ f fn differ. get_or-set_other seats at (d * q.columns + f) (cell q.columns seats d g + 1) 0 (columns-differ q.columns d g d f gn fn differ);
    }

pub IsOneMore-taken : (q : Question) (seats : List ℕ) (d g : ℕ) → length seats ≡ q.rows * q.columns → d < q.rows → g < q.columns →
    0 < cell q.columns seats d g → IsOneMore q (set seats (d * q.columns + g) (cell q.columns seats d g - 1)) seats d g
IsOneMore-taken q seats d g long dm gn some =
    let at : ℕ = d * q.columns + g in
    let less : ℕ = cell q.columns seats d g - 1 in
    let within : d * q.columns + g < length seats = omega (arith, long, cell-within q.rows q.columns d g dm gn) in
    record {
      one_each = sym (length-set seats at less);
      here = omega (arith, get_or-set_same seats at less 0 within, some);
      rows = λ e f em fn differ. sym (get_or-set_other seats at (e * q.columns + f) less 0 (rows-differ q.columns d g e f gn fn differ));
      columns = λ f fn differ. sym (get_or-set_other seats at (d * q.columns + f) less 0 (columns-differ q.columns d g d f gn fn differ));
    }

-- the sums of rows and columns
pub row-more : (q : Question) (s t : List ℕ) (d g : ℕ) → g < q.columns → IsOneMore q s t d g → row_seats q t d ≡ row_seats q s d + 1
row-more q s t d g gn more =
    sum_to-one_more q.columns (cell q.columns s d) (cell q.columns t d) g gn more.columns more.here

pub row-same : (q : Question) (s t : List ℕ) (d g e : ℕ) → e < q.rows → e ≢ d → IsOneMore q s t d g → row_seats q t e ≡ row_seats q s e
row-same q s t d g e em differ more = sum_to-ext q.columns _ _ (λ f fn. more.rows e f em fn differ)

pub column-more : (q : Question) (s t : List ℕ) (d g : ℕ) → d < q.rows → g < q.columns → IsOneMore q s t d g → column_seats q t g ≡ column_seats q s g + 1
column-more q s t d g dm gn more =
    sum_to-one_more q.rows (λ e. cell q.columns s e g) (λ e. cell q.columns t e g) d dm (λ e em differ. more.rows e g em gn differ) more.here

pub column-same : (q : Question) (s t : List ℕ) (d g f : ℕ) → f < q.columns → f ≢ g → IsOneMore q s t d g → column_seats q t f ≡ column_seats q s f
column-same q s t d g f fn differ more = sum_to-ext q.rows _ _ (λ e em. elim (cases_eq e d) [
  | inl is ↦ rw is (more.columns f fn differ)
  | inr other ↦ more.rows e f em fn other
])

pub placed-one_more : (q : Question) (s t : List ℕ) (d g : ℕ) → d < q.rows → g < q.columns → IsOneMore q s t d g → placed q t ≡ placed q s + 1
placed-one_more q s t d g dm gn more =
    sum_to-one_more q.rows (row_seats q s) (row_seats q t) d dm (λ e em differ. row-same q s t d g e em differ more) (row-more q s t d g gn more)

-- the cells of two matrices, one of which has one more seat
cell-cases : (q : Question) (s t : List ℕ) (d g e f : ℕ) → e < q.rows → f < q.columns → IsOneMore q s t d g →
    ((e ≡ d) × (f ≡ g)) ⊎ (cell q.columns t e f ≡ cell q.columns s e f)
cell-cases q s t d g e f em fn more = elim (cases_eq e d) [
  | inr other ↦ inr (more.rows e f em fn other)
  | inl is ↦ elim (cases_eq f g) [ inl same ↦ inl (is, same) | inr other ↦ inr (rw is (more.columns f fn other)) ]
]

at_least-more : (q : Question) (least s t : List ℕ) (d g : ℕ) → d < q.rows → g < q.columns → IsOneMore q s t d g →
    AreAtLeast q least s → AreAtLeast q least t
at_least-more q least s t d g dm gn more below e f em fn = elim (cell-cases q s t d g e f em fn more) [
  | inl both ↦ rw (both.0, both.1) (omega (arith, more.here, below d g dm gn))
  | inr same ↦ omega (arith, same, below e f em fn)
]

at_least-less : (q : Question) (least s t : List ℕ) (d g : ℕ) → d < q.rows → g < q.columns → IsOneMore q s t d g →
    cell q.columns least d g < cell q.columns t d g → AreAtLeast q least t → AreAtLeast q least s
at_least-less q least s t d g dm gn more some below e f em fn = elim (cell-cases q s t d g e f em fn more) [
  | inl both ↦ rw (both.0, both.1) (omega (arith, more.here, some))
  | inr same ↦ omega (arith, same, below e f em fn)
]

at_most-more : (q : Question) (most s t : List ℕ) (d g : ℕ) → d < q.rows → g < q.columns → IsOneMore q s t d g →
    cell q.columns s d g < cell q.columns most d g → AreAtMost q most s → AreAtMost q most t
at_most-more q most s t d g dm gn more room below e f em fn = elim (cell-cases q s t d g e f em fn more) [
  | inl both ↦ rw (both.0, both.1) (omega (arith, more.here, room))
  | inr same ↦ omega (arith, same, below e f em fn)
]

at_most-less : (q : Question) (most s t : List ℕ) (d g : ℕ) → d < q.rows → g < q.columns → IsOneMore q s t d g →
    AreAtMost q most t → AreAtMost q most s
at_most-less q most s t d g dm gn more below e f em fn = elim (cell-cases q s t d g e f em fn more) [
  | inl both ↦ rw (both.0, both.1) (omega (arith, more.here, below d g dm gn))
  | inr same ↦ omega (arith, same, below e f em fn)
]

pub ArePlaced-placed : (q : Question) (b : CellBounds) (s t : List ℕ) (d g : ℕ) → d < q.rows → g < q.columns → RowLacks q s d →
    ColumnLacks q s g → cell q.columns s d g < cell q.columns b.most d g → IsOneMore q s t d g → ArePlaced q b s → ArePlaced q b t
ArePlaced-placed q b s t d g dm gn row_lacks column_lacks room more before = record {
  one_each = more.one_each ∙ before.one_each;
  rows = λ e em. elim (cases_eq e d) [
    | inl is ↦ rw is (omega (arith, row-more q s t d g gn more, row_lacks))
    | inr other ↦ omega (arith, row-same q s t d g e em other more, before.rows e em)
  ];
  columns = λ f fn. elim (cases_eq f g) [
    | inl is ↦ rw is (omega (arith, column-more q s t d g dm gn more, column_lacks))
    | inr other ↦ omega (arith, column-same q s t d g f fn other more, before.columns f fn)
  ];
  at_least = at_least-more q b.least s t d g dm gn more before.at_least;
  at_most = at_most-more q b.most s t d g dm gn more room before.at_most;
}

pub ArePlaced-taken : (q : Question) (b : CellBounds) (s t : List ℕ) (d g : ℕ) → d < q.rows → g < q.columns → IsOneMore q t s d g →
    IsAboveLeast q b s d g → ArePlaced q b s → ArePlaced q b t
ArePlaced-taken q b s t d g dm gn less above before =
    let below : AreAtMost q s t = at_most-less q s t s d g dm gn less (λ e f em fn. omega arith) in
    record {
      one_each = sym less.one_each ∙ before.one_each;
      rows = λ e em. omega (arith, sum_to-le q.columns (cell q.columns t e) (cell q.columns s e) (λ f fn. below e f em fn), before.rows e em);
      columns = λ f fn.
          omega (arith, sum_to-le q.rows (λ e. cell q.columns t e f) (λ e. cell q.columns s e f) (λ e em. below e f em fn), before.columns f fn);
      at_least = at_least-less q b.least t s d g dm gn less above before.at_least;
      at_most = at_most-less q b.most t s d g dm gn less before.at_most;
    }

-- a seat in column g moves from row e to row d: in between, in m, row d has one more
pub lacks-passed : (q : Question) (b : CellBounds) (s m t : List ℕ) (d e g : ℕ) → e < q.rows → g < q.columns → e ≢ d → IsOneMore q s m d g →
    IsOneMore q t m e g → ArePlaced q b s → RowLacks q t e
lacks-passed q b s m t d e g em gn differ more less before =
    omega (arith, row-same q s m d g e em differ more, row-more q t m e g gn less, before.rows e em)

pub IsPassed-of : (q : Question) (s m t : List ℕ) (d e g : ℕ) → d < q.rows → e < q.rows → g < q.columns → e ≢ d → IsOneMore q s m d g →
    IsOneMore q t m e g → IsPassed q s t e d
IsPassed-of q s m t d e g dm em gn differ more less = record {
  placed = omega (arith, placed-one_more q s m d g dm gn more, placed-one_more q t m e g em gn less);
  columns = λ f fn. elim (cases_eq f g) [
    | inl is ↦ rw is (omega (arith, column-more q s m d g dm gn more, column-more q t m e g em gn less))
    | inr other ↦ sym (column-same q t m e g f fn other less) ∙ column-same q s m d g f fn other more
  ];
  others = λ x f xm fn not_e not_d. sym (less.rows x f xm fn not_e) ∙ more.rows x f xm fn not_d;
  fewer = λ f fn. elim (cell-cases q t m e g e f em fn less) [
    | inl both ↦ rw (both.1) (omega (arith, less.here, more.rows e g em gn differ))
    | inr same ↦ omega (arith, same, more.rows e f em fn differ)
  ];
}

pub ArePlaced-passed : (q : Question) (b : CellBounds) (s m t : List ℕ) (d e g : ℕ) → d < q.rows → e < q.rows → g < q.columns → e ≢ d →
    RowLacks q s d → cell q.columns s d g < cell q.columns b.most d g → cell q.columns b.least e g < cell q.columns s e g →
    IsOneMore q s m d g → IsOneMore q t m e g → ArePlaced q b s → ArePlaced q b t
ArePlaced-passed q b s m t d e g dm em gn differ lacks room some more less before =
    let passed : IsPassed q s t e d = IsPassed-of q s m t d e g dm em gn differ more less in
    let left : cell q.columns b.least e g < cell q.columns m e g = omega (arith, some, more.rows e g em gn differ) in
    record {
      one_each = sym less.one_each ∙ more.one_each ∙ before.one_each;
      rows = λ x xm. elim (cases_eq x e) [
        | inl is ↦ rw is (omega (arith, lacks-passed q b s m t d e g em gn differ more less before))
        | inr not_e ↦ elim (cases_eq x d) [
          | inl is ↦ rw is (omega (arith, row-same q t m e g d dm (λ same. differ (sym same)) less, row-more q s m d g gn more, lacks))
          | inr not_d ↦ omega (arith, row-same q t m e g x xm not_e less, row-same q s m d g x xm not_d more, before.rows x xm)
        ]
      ];
      columns = λ f fn. omega (arith, passed.columns f fn, before.columns f fn);
      at_least = at_least-less q b.least t m e g em gn less left (at_least-more q b.least s m d g dm gn more before.at_least);
      at_most = at_most-less q b.most t m e g em gn less (at_most-more q b.most s m d g dm gn more room before.at_most);
    }
