-- The middle of divisors.
use Rattle.std.proofs.Common.{◌≡◌, ℕ, ◌+◌, ◌/◌, ◌<◌, ◌≤◌, max, List, map, length, get_or, refl, sym, ap, ◌∙◌, arith, add-one}
use Rattle.std.proofs.lemmas.List.{ext_get_or, get_or-map, length-map}
use Rattle.std.proofs.Math.Nat.{div-le_self}
use Rattle.std.specs.List.{range_with_len}
use Rattle.zh_matrices.specs.Divisors.{AreWithin, Divisors, millionths}
use Rattle.zh_matrices.specs.Question.{Question}
use Rattle.zh_lower.specs.Second.{middled, scaled_down, with_columns_middled, with_rows_middled}
use Rattle.zh_lower.specs.States.{middle_column, middle_row}
use Rattle.zh_lower.proofs.FilledLemmas.{AreWithin-filled}

pub middled-zero : (q : Question) (x : Divisors) → middled q 0 x ≡ x
unfolding middled
middled-zero q x = refl

middled-next : (q : Question) (n : ℕ) (x : Divisors) → middled q (n + 1) x ≡ with_columns_middled q (with_rows_middled q (middled q n x))
unfolding middled
middled-next q n x = rw add-one refl

-- one more time
pub middled-more : (q : Question) (n : ℕ) (begun : Divisors) (before columns new_rows new_columns : List ℕ) →
    columns ≡ (middled q n begun).of_columns →
    new_rows ≡ map (middle_row q (millionths before columns)) (range_with_len 0 q.rows) →
    new_columns ≡ map (middle_column q (millionths new_rows columns)) (range_with_len 0 q.columns) →
    millionths new_rows new_columns ≡ middled q (n + 1) begun
middled-more q n begun before columns new_rows new_columns at rows_are columns_are =
    let x : Divisors = middled q n begun in
    let rows : new_rows ≡ map (middle_row q x) (range_with_len 0 q.rows)
    = rows_are ∙ ap (λ cs. map (middle_row q (millionths before cs)) (range_with_len 0 q.rows)) at in
    let both : new_columns ≡ map (middle_column q (with_rows_middled q x)) (range_with_len 0 q.columns)
    = columns_are ∙ ap (λ rs. map (middle_column q (millionths rs columns)) (range_with_len 0 q.columns)) rows in
    ap (λ rs. millionths rs new_columns) rows
    ∙ ap (λ cs. millionths (map (middle_row q x) (range_with_len 0 q.rows)) cs) both
    ∙ sym (middled-next q n begun)

pub scaled_down-is : (scale : ℕ) (of_columns xs : List ℕ) → length xs ≡ length of_columns →
    ((g : ℕ) → g < length of_columns → get_or xs g 0 ≡ max 1 (get_or of_columns g 0 / scale)) → xs ≡ scaled_down scale of_columns
scaled_down-is scale of_columns xs long at =
    ext_get_or 0 xs (scaled_down scale of_columns) (long ∙ sym (length-map of_columns (λ x. max 1 (x / scale)))) (λ g lt.
    let there : g < length of_columns = omega arith in
    at g there ∙ sym (get_or-map (λ x. max 1 (x / scale)) of_columns g 0 0 there))

-- columns that are scaled down stay within the limits
pub scaled_down-within : (n top most scale : ℕ) (of_columns : List ℕ) → top ≤ most → AreWithin n top of_columns →
    AreWithin n most (scaled_down scale of_columns)
scaled_down-within n top most scale of_columns less within =
    let long : length (scaled_down scale of_columns) ≡ n = length-map of_columns (λ x. max 1 (x / scale)) ∙ within.one_each in
    let at : (g : ℕ) → g < n → get_or (scaled_down scale of_columns) g 0 ≡ max 1 (get_or of_columns g 0 / scale)
    = λ g gn. get_or-map (λ x. max 1 (x / scale)) of_columns g 0 0 (omega (arith, within.one_each)) in
    AreWithin-filled n most (scaled_down scale of_columns) long
    (λ g gn. omega (arith, at g gn))
    (λ g gn. omega (arith, at g gn, div-le_self (get_or of_columns g 0) scale, within.from_1 g 0 (omega (arith, within.one_each)), within.at_most g 0 (omega (arith, within.one_each))))
