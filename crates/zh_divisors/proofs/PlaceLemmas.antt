-- Places of a table of m rows and n columns that is listed row by row.
use Rattle.std.proofs.Common.{◌≡◌, ℕ, ◌+◌, ◌*◌, ◌/◌, ◌%◌, ◌<◌, ◌≤◌, List, length, get_or, inl, inr, sym, ap, subst, ◌∙◌, arith}
use Rattle.std.proofs.lemmas.Bool.{cases_lt}
use Rattle.std.proofs.lemmas.List.{ext_get_or}
use Rattle.std.proofs.lemmas.Nat.{div_below, div-mul-add}
use Rattle.std.proofs.Math.Nat.{div-add-mod', mod-lt, mul-le-mul_right, mul-zero}

-- a table that has a place has a column
some_column : (m n k : ℕ) → k < m * n → 0 < n
some_column m n k lt = elim (cases_lt 0 n) [
  | inl some ↦ some
  | inr none ↦ let zero_is : n ≡ 0 = omega arith in absurd (omega (arith, ap (λ w. m * w) zero_is, mul-zero m))
]

pub row_of : (m n k : ℕ) → k < m * n → k / n < m
row_of m n k lt = div_below k n m (some_column m n k lt) lt

pub column_of : (m n k : ℕ) → k < m * n → k % n < n
column_of m n k lt = mod-lt k (some_column m n k lt)

-- the place of a cell
pub place-div : (d g n : ℕ) → g < n → (d * n + g) / n ≡ d
place-div d g n lt = div-mul-add d n g lt

pub place-mod : (d g n : ℕ) → g < n → (d * n + g) % n ≡ g
place-mod d g n lt =
    let whole = div-add-mod' (d * n + g) n in
    let same : (d * n + g) / n * n ≡ d * n = ap (λ e. e * n) (place-div d g n lt) in
    omega (arith, whole, same)

pub same_place : (n d g e f : ℕ) → g < n → f < n → d * n + g ≡ e * n + f → (d ≡ e) × (g ≡ f)
same_place n d g e f gn fn same = (
  sym (place-div d g n gn) ∙ ap (λ k. k / n) same ∙ place-div e f n fn,
  sym (place-mod d g n gn) ∙ ap (λ k. k % n) same ∙ place-mod e f n fn,
)

pub cell-within : (m n d g : ℕ) → d < m → g < n → d * n + g < m * n
cell-within m n d g dm gn =
    let rows : (d + 1) * n ≤ m * n = mul-le-mul_right n (omega arith) in
    omega arith

-- what is true of the place of each cell is true of each place
pub each_place : (m n : ℕ) (P : ℕ → Type 0) → ((d g : ℕ) → d < m → g < n → P (d * n + g)) → (k : ℕ) → k < m * n → P k
each_place m n P each k lt = subst P (div-add-mod' k n) (each (k / n) (k % n) (row_of m n k lt) (column_of m n k lt))

-- two tables that agree in each cell are equal
pub same_table : (m n : ℕ) (xs ys : List ℕ) → length xs ≡ m * n → length ys ≡ m * n →
    ((d g : ℕ) → d < m → g < n → get_or xs (d * n + g) 0 ≡ get_or ys (d * n + g) 0) → xs ≡ ys
same_table m n xs ys long also each =
    ext_get_or 0 xs ys (long ∙ sym also) (λ k lt. each_place m n (λ p. get_or xs p 0 ≡ get_or ys p 0) each k (omega (arith, long)))
