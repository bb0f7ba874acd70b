-- The places of a table that is stored row by row.
use Rattle.std.proofs.Common.{◌≡◌, ℕ, ◌+◌, ◌*◌, ◌<◌, ◌∙◌, List, length, get_or, map, ap, arith}
use Rattle.std.proofs.Common.{mul_comm}
use Rattle.std.proofs.lemmas.List.{length-map, get_or-map}
use Rattle.std.specs.Prelude.{flat_map}
use Rattle.zh_returns.specs.Payload.{numbers}
use Rattle.zh_returns.proofs.CallerLemmas.{HasWidth, length-blocks, in_block, length-numbers, get_or-numbers}

-- the table of a function
abbrev pub table : (ℕ → ℕ → ℕ) → ℕ → ℕ → List ℕ
table f rows c = flat_map (λ d. map (f d) (numbers 1 c)) (numbers 1 rows)

row_wide : (f : ℕ → ℕ → ℕ) (c : ℕ) → HasWidth (λ (d : ℕ). map (f d) (numbers 1 c)) c
row_wide f c = record { at = λ d. length-map (numbers 1 c) (f d) ∙ length-numbers 1 c }

pub length-table : (f : ℕ → ℕ → ℕ) (rows c : ℕ) → length (table f rows c) ≡ rows * c
length-table f rows c = length-blocks (λ (d : ℕ). map (f d) (numbers 1 c)) c (row_wide f c) (numbers 1 rows) ∙ ap (λ (n : ℕ). c * n) (length-numbers 1 rows) ∙ mul_comm c rows

pub at_table : (f : ℕ → ℕ → ℕ) (rows c d g : ℕ) → d < rows → g < c → get_or (table f rows c) (d * c + g) 0 ≡ f (d + 1) (g + 1)
at_table f rows c d g row column =
    let turned : d * c + g ≡ c * d + g = omega (arith, mul_comm c d) in
    let first : 1 + d ≡ d + 1 = omega arith in
    let second : 1 + g ≡ g + 1 = omega arith in
    ap (λ (p : ℕ). get_or (table f rows c) p 0) turned
    ∙ in_block (λ (d : ℕ). map (f d) (numbers 1 c)) c (row_wide f c) (numbers 1 rows) d g 0 0 (omega (arith, length-numbers 1 rows)) column
    ∙ ap (λ (m : ℕ). get_or (map (f m) (numbers 1 c)) g 0) (get_or-numbers 1 rows d 0 row ∙ first)
    ∙ get_or-map (f (d + 1)) (numbers 1 c) g 0 0 (omega (arith, length-numbers 1 c))
    ∙ ap (f (d + 1)) (get_or-numbers 1 c g 0 column ∙ second)
