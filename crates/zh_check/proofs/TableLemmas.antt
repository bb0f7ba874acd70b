-- Tables: for each constituency, in order, a value for each of some columns.
use Rattle.std.proofs.Common.{◌≡◌, ℕ, ◌+◌, ◌*◌, ◌<◌, List, [], ◌∷◌, ◌++◌, length, get_or, map, flat_map, sym, ap, ◌∙◌, arith, mul_comm, append-nil}
use Rattle.std.specs.List.{range_with_len}
use Rattle.std.proofs.lemmas.List.{get_or-map, length-map}
use Rattle.std.proofs.lemmas.List.Concat.{flat_map-append}
use Rattle.std.proofs.lemmas.List.FromFn.{get_or-range_with_len, length-range_with_len}
use Rattle.zh_returns.proofs.CallerLemmas.{HasWidth, in_block, length-blocks}
use Rattle.zh_sheet.proofs.CallerLemmas.{numbers_more}

abbrev pub table : {A : Type 0} → (ℕ → ℕ → A) → List ℕ → ℕ → List A
table f columns rows = flat_map (λ d. map (f d) columns) (range_with_len 1 rows)

wide : {A : Type 0} (f : ℕ → ℕ → A) (columns : List ℕ) → HasWidth (λ (d : ℕ). map (f d) columns) (length columns)
wide f columns = record { at = λ d. length-map columns (f d) }

pub length-table : {A : Type 0} (f : ℕ → ℕ → A) (columns : List ℕ) (rows : ℕ) → length (table f columns rows) ≡ rows * length columns
length-table f columns rows =
    length-blocks (λ (d : ℕ). map (f d) columns) (length columns) (wide f columns) (range_with_len 1 rows)
    ∙ (ap (λ n. length columns * n) (length-range_with_len 1 rows) ∙ mul_comm (length columns) rows)

pub length-square : {A : Type 0} (f : ℕ → ℕ → A) (columns rows : ℕ) → length (table f (range_with_len 1 columns) rows) ≡ rows * columns
length-square f columns rows = length-table f (range_with_len 1 columns) rows ∙ ap (λ n. rows * n) (length-range_with_len 1 columns)

-- the value at a place
pub in_table : {A : Type 0} (f : ℕ → ℕ → A) (columns : List ℕ) (rows d j : ℕ) (e : A) → d < rows → j < length columns →
    get_or (table f columns rows) (d * length columns + j) e ≡ f (d + 1) (get_or columns j 0)
in_table f columns rows d j e row column =
    let turned : d * length columns + j ≡ length columns * d + j = omega (arith, mul_comm d (length columns)) in
    let number : get_or (range_with_len 1 rows) d 0 ≡ d + 1 = get_or-range_with_len 1 rows d 0 row ∙ omega arith in
    ap (λ p. get_or (table f columns rows) p e) turned
    ∙ (in_block (λ (d : ℕ). map (f d) columns) (length columns) (wide f columns) (range_with_len 1 rows) d j 0 e (omega (arith, row, length-range_with_len 1 rows)) column
    ∙ (ap (λ n. get_or (map (f n) columns) j e) number ∙ get_or-map (f (d + 1)) columns j 0 e column))

pub in_square : {A : Type 0} (f : ℕ → ℕ → A) (columns rows d g : ℕ) (e : A) → d < rows → g < columns →
    get_or (table f (range_with_len 1 columns) rows) (d * columns + g) e ≡ f (d + 1) (g + 1)
in_square f columns rows d g e row column =
    let long = length-range_with_len 1 columns in
    let number : get_or (range_with_len 1 columns) g 0 ≡ g + 1 = get_or-range_with_len 1 columns g 0 column ∙ omega arith in
    ap (λ w. get_or (table f (range_with_len 1 columns) rows) (d * w + g) e) (sym long)
    ∙ (in_table f (range_with_len 1 columns) rows d g e row (omega (arith, column, long)) ∙ ap (f (d + 1)) number)

-- one more row
pub table_more : {A : Type 0} (f : ℕ → ℕ → A) (columns : List ℕ) (rows : ℕ) → table f columns (rows + 1) ≡ table f columns rows ++ map (f (rows + 1)) columns
table_more f columns rows =
    ap (flat_map (λ (d : ℕ). map (f d) columns)) (numbers_more rows)
    ∙ (flat_map-append (λ (d : ℕ). map (f d) columns) (range_with_len 1 rows) ((rows + 1) ∷ []) ∙ ap (λ xs. table f columns rows ++ xs) (append-nil (map (f (rows + 1)) columns)))
