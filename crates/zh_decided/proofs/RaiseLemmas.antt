-- A cell that gets one more seat, while its row and its column each lose one elsewhere.
use Rattle.std.proofs.Common.{◌≡◌, ◌≢◌, ℕ, ◌<◌, ◌≤◌, List, inl, inr, sym, ◌∙◌, arith}
use Rattle.std.proofs.lemmas.Bool.{cases_eq, cases_lt}
use Rattle.std.proofs.Math.Nat.{le_of_eq}
use Rattle.zh_divisors.specs.Sums.{sum_to}
use Rattle.zh_divisors.proofs.CallerLemmas.{sum_to-lt}
use Rattle.zh_matrices.specs.Question.{Question, cell}
use Rattle.zh_decided.specs.Bounds.{CellBounds, IsWithin}
use Rattle.zh_decided.specs.Ways.{ArePlaced, ColumnLacks, HasNoOtherColumn, HasNoOtherRow, IsAboveLeast, IsOneMore, IsOtherColumn, IsOtherRow, RowLacks}
use Rattle.zh_decided.proofs.PathTurnLemmas.{ArePlaced-taken, column-more, column-same, row-more, row-same}

pub placed-within : (q : Question) (b : CellBounds) (s : List ℕ) → IsWithin q b s → ArePlaced q b s
placed-within q b s within = record {
  one_each = within.one_each;
  rows = λ d dm. le_of_eq (within.rows_add_up d dm);
  columns = λ g gn. le_of_eq (within.columns_add_up g gn);
  at_least = within.at_least;
  at_most = within.at_most;
}

-- if no term of s but that of j can fall, no t with the same sum has a greater term there
no_other : (n : ℕ) (s t least : ℕ → ℕ) (j total : ℕ) → j < n → ((i : ℕ) → i < n → i ≢ j → s i ≤ least i) → ((i : ℕ) → i < n → least i ≤ t i) →
    sum_to n s ≡ total → sum_to n t ≡ total → t j ≤ s j
no_other n s t least j total within none at_least one other = elim (cases_lt (s j) (t j)) [
  | inl less ↦
      let sum : sum_to n s < sum_to n t
      = sum_to-lt n s t j
      (λ i lt. elim (cases_eq i j) [
        | inl is ↦ rw is (omega (arith, less))
        | inr differs ↦ omega (arith, none i lt differs, at_least i lt)
      ])
      within less in
      absurd (omega (arith, sum, one, other))
  | inr le ↦ le
]

-- if no other cell of its row, or of its column, can give up a seat, no matrix within the bounds has more seats in the cell
pub no_other_column : (q : Question) (b : CellBounds) (s : List ℕ) (d g : ℕ) → d < q.rows → g < q.columns → IsWithin q b s → HasNoOtherColumn q b s d g →
    (t : List ℕ) → IsWithin q b t → cell q.columns t d g ≤ cell q.columns s d g
no_other_column q b s d g dm gn within none t other =
    no_other q.columns (cell q.columns s d) (cell q.columns t d) (cell q.columns b.least d) g _ gn none (λ f fn. other.at_least d f dm fn)
    (within.rows_add_up d dm) (other.rows_add_up d dm)

pub no_other_row : (q : Question) (b : CellBounds) (s : List ℕ) (d g : ℕ) → d < q.rows → g < q.columns → IsWithin q b s → HasNoOtherRow q b s d g →
    (t : List ℕ) → IsWithin q b t → cell q.columns t d g ≤ cell q.columns s d g
no_other_row q b s d g dm gn within none t other =
    no_other q.rows (λ e. cell q.columns s e g) (λ e. cell q.columns t e g) (λ e. cell q.columns b.least e g) d _ dm none
    (λ e em. other.at_least e g em gn) (within.columns_add_up g gn) (other.columns_add_up g gn)

-- the matrix after a row and a column have each given up a seat
pub record IsOpened (q : Question) (b : CellBounds) (s m : List ℕ) (d g : ℕ) : Type 0 where
  pub each_placed : ArePlaced q b m
  pub row_lacks : RowLacks q m d
  pub column_lacks : ColumnLacks q m g
  pub same : cell q.columns m d g ≡ cell q.columns s d g

-- the second row can still give one up after the first has
pub still-above : (q : Question) (b : CellBounds) (s m : List ℕ) (d g e f : ℕ) → e < q.rows → g < q.columns → e ≢ d → IsOneMore q m s d f →
    IsAboveLeast q b s e g → IsAboveLeast q b m e g
still-above q b s m d g e f em gn differs first above = omega (arith, above, first.rows e g em gn differs)

pub IsOpened-of : (q : Question) (b : CellBounds) (s m t : List ℕ) (d g e f : ℕ) → d < q.rows → g < q.columns → IsWithin q b s →
    IsOtherColumn q b s d g f → IsOtherRow q b s d g e → IsOneMore q m s d f → IsOneMore q t m e g → IsOpened q b s t d g
IsOpened-of q b s m t d g e f dm gn within column row first second =
    let each : ArePlaced q b m = ArePlaced-taken q b s m d f dm column.there first column.above (placed-within q b s within) in
    let above : IsAboveLeast q b m e g = still-above q b s m d g e f row.there gn row.differs first row.above in
    let not_e : d ≢ e = λ same. row.differs (sym same) in
    let not_f : g ≢ f = λ same. column.differs (sym same) in
    record {
      each_placed = ArePlaced-taken q b m t e g row.there gn second above each;
      row_lacks = omega (arith, row-same q t m e g d dm not_e second, row-more q m s d f column.there first, within.rows_add_up d dm);
      column_lacks = omega (arith, column-more q t m e g row.there gn second, column-same q m s d f g gn not_f first, within.columns_add_up g gn);
      same = sym (second.rows d g dm gn not_e) ∙ sym (first.columns g gn not_f);
    }
