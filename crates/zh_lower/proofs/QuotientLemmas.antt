-- The stored quotients of a state.
use Rattle.std.proofs.Common.{◌≡◌, ℕ, zero, suc, ◌+◌, ◌*◌, ◌/◌, ◌%◌, ◌^◌, ◌<◌, ◌≤◌, Bool, not, ◌||◌, ◌==◌, List, All, length, get_or, refl, ap, ◌∙◌, arith, add-one}
use Rattle.std.proofs.lemmas.List.Elements.{All-from_get_or}
use Rattle.std.proofs.Math.Nat.{mul_comm, mul-pos, mul-le-mul_left, mul-le-mul_right}
use Rattle.zh_divisors.specs.Line.{half_up, half_up_total}
use Rattle.zh_divisors.proofs.CallerLemmas.{column_of, half_up-at_most, place-div, place-mod, row_of, sum_to-ext, sum_to-suc}
use Rattle.zh_matrices.specs.Divisors.{AreWithinLimits, Divisors, millionths}
use Rattle.zh_lower.specs.Places.{no_quotient, product_at, quotient_at, quotients}
use Rattle.zh_matrices.specs.Question.{IsSized, Question, cell, column_votes, row_votes}
use Rattle.zh_lower.specs.Quotients.{are_unsettled, kept_at, some_to}
use Rattle.zh_lower.specs.States.{holds_half, is_half, is_unsettled}
use Rattle.zh_lower.specs.declared.quotient.Quotient.{Quotient}
use Rattle.zh_lower.proofs.LineLemmas.{each_vote}
use Rattle.zh_lower.proofs.PlaceLemmas.{length-quotients, quotient-is}

pub some_to-suc : (n : ℕ) (f : ℕ → Bool) → some_to (n + 1) f ≡ (some_to n f || f n)
some_to-suc n f = rw add-one refl

pub ruleset line_steps = (some_to-suc, sum_to-suc)

holds_half-is : (n : ℕ) (votes others : ℕ → ℕ) (D : ℕ) (f : ℕ → Bool) →
    ((i : ℕ) → i < n → f i ≡ is_half (votes i * 10 ^ 12) (others i * D)) → some_to n f ≡ holds_half n votes others D
holds_half-is zero votes others D f at = refl
holds_half-is (suc n) votes others D f at =
    rw (holds_half-is n votes others D f (λ i lt. at i (omega arith)), at n (omega arith)) refl

-- a line is unsettled if its stored quotients are
unsettled-is : (n : ℕ) (votes others : ℕ → ℕ) (total D : ℕ) (cells : ℕ → Quotient) →
    ((i : ℕ) → i < n → (cells i).rounded ≡ half_up (votes i * 10 ^ 12) (others i * D)) →
    ((i : ℕ) → i < n → (cells i).is_half ≡ is_half (votes i * 10 ^ 12) (others i * D)) →
    are_unsettled n cells total ≡ is_unsettled n votes others total D
unsettled-is n votes others total D cells rounded halves =
    ap (λ sum. not (sum == total) || some_to n (λ i. (cells i).is_half))
    (sum_to-ext n (λ i. (cells i).rounded) (λ i. half_up (votes i * 10 ^ 12) (others i * D)) rounded)
    ∙ ap (λ b. not (half_up_total n votes others D == total) || b) (holds_half-is n votes others D (λ i. (cells i).is_half) halves)

-- the stored quotient of a cell, by its place or by its row and column
kept-is : (q : Question) (x : Divisors) (xs : List Quotient) (d g place : ℕ) → xs ≡ quotients q x → d < q.rows → g < q.columns →
    place ≡ d * q.columns + g → kept_at xs place ≡ quotient_at q x (d * q.columns + g)
kept-is q x xs d g place is dw gw place_is =
    let rows = mul-le-mul_right q.columns dw in
    let within : d * q.columns + g < q.rows * q.columns = omega (arith, rows) in
    rw place_is (quotient-is q x xs (d * q.columns + g) is within)

pub row-unsettled : (q : Question) (x : Divisors) (xs : List Quotient) (d total : ℕ) → xs ≡ quotients q x → d < q.rows →
    are_unsettled q.columns (λ g. kept_at xs (d * q.columns + g * 1)) total
    ≡ is_unsettled q.columns (row_votes q d) (λ g. get_or x.of_columns g 0) total (get_or x.of_rows d 0)
row-unsettled q x xs d total is dw =
    let product : (g : ℕ) → g < q.columns →
    product_at q x (d * q.columns + g) ≡ get_or x.of_columns g 0 * get_or x.of_rows d 0
    = λ g gw. rw (place-div d g q.columns gw, place-mod d g q.columns gw) (mul_comm _ _) in
    let kept : (g : ℕ) → g < q.columns → kept_at xs (d * q.columns + g * 1) ≡ quotient_at q x (d * q.columns + g)
    = λ g gw. kept-is q x xs d g (d * q.columns + g * 1) is dw gw (omega arith) in
    unsettled-is q.columns (row_votes q d) (λ g. get_or x.of_columns g 0) total (get_or x.of_rows d 0) _
    (λ g gw. ap (λ quotient. quotient.rounded) (kept g gw) ∙ ap (λ p. half_up (cell q.columns q.votes d g * 10 ^ 12) p) (product g gw))
    (λ g gw. ap (λ quotient. quotient.is_half) (kept g gw) ∙ ap (λ p. is_half (cell q.columns q.votes d g * 10 ^ 12) p) (product g gw))

pub column-unsettled : (q : Question) (x : Divisors) (xs : List Quotient) (g total : ℕ) → xs ≡ quotients q x → g < q.columns →
    are_unsettled q.rows (λ d. kept_at xs (g + d * q.columns)) total
    ≡ is_unsettled q.rows (column_votes q g) (λ d. get_or x.of_rows d 0) total (get_or x.of_columns g 0)
column-unsettled q x xs g total is gw =
    let product : (d : ℕ) → d < q.rows → product_at q x (d * q.columns + g) ≡ get_or x.of_rows d 0 * get_or x.of_columns g 0
    = λ d dw. rw (place-div d g q.columns gw, place-mod d g q.columns gw) refl in
    let kept : (d : ℕ) → d < q.rows → kept_at xs (g + d * q.columns) ≡ quotient_at q x (d * q.columns + g)
    = λ d dw. kept-is q x xs d g (g + d * q.columns) is dw gw (omega arith) in
    unsettled-is q.rows (column_votes q g) (λ d. get_or x.of_rows d 0) total (get_or x.of_columns g 0) _
    (λ d dw. ap (λ quotient. quotient.rounded) (kept d dw) ∙ ap (λ p. half_up (cell q.columns q.votes d g * 10 ^ 12) p) (product d dw))
    (λ d dw. ap (λ quotient. quotient.is_half) (kept d dw) ∙ ap (λ p. is_half (cell q.columns q.votes d g * 10 ^ 12) p) (product d dw))

-- a rounded quotient is at most 10^27
half_up-small : (v p : ℕ) → v ≤ 10 ^ 14 → 1 ≤ p → half_up (v * 10 ^ 12) p ≤ 10 ^ 27
half_up-small v p few positive =
    let wide : (2 * (v * 10 ^ 12) + 1) * 1 ≤ (2 * (v * 10 ^ 12) + 1) * p = mul-le-mul_left (2 * (v * 10 ^ 12) + 1) positive in
    omega (arith, half_up-at_most (v * 10 ^ 12) p (v * 10 ^ 12) positive (omega arith))

pub quotients-small : (q : Question) (of_rows of_columns : List ℕ) (xs : List Quotient) → IsSized q →
    AreWithinLimits q of_rows of_columns → xs ≡ quotients q (millionths of_rows of_columns) → All (λ quotient. quotient.rounded ≤ 10 ^ 27) xs
quotients-small q of_rows of_columns xs sized limits is =
    let long : length xs ≡ q.rows * q.columns = length-quotients q (millionths of_rows of_columns) xs is in
    All-from_get_or (λ quotient. quotient.rounded ≤ 10 ^ 27) xs no_quotient (λ k lt.
    let within : k < q.rows * q.columns = omega arith in
    let row : 1 ≤ get_or of_rows (k / q.columns) 0
    = limits.rows.from_1 (k / q.columns) 0 (omega (arith, row_of q.rows q.columns k within, limits.rows.one_each)) in
    let column : 1 ≤ get_or of_columns (k % q.columns) 0
    = limits.columns.from_1 (k % q.columns) 0 (omega (arith, column_of q.rows q.columns k within, limits.columns.one_each)) in
    rw (quotient-is q (millionths of_rows of_columns) xs k is within)
    (half_up-small (get_or q.votes k 0) _ (each_vote q sized k) (mul-pos row column)))

-- the places of a line are within the list of quotients
pub row_within : (q : Question) (x : Divisors) (xs : List Quotient) (d : ℕ) → xs ≡ quotients q x → d < q.rows →
    (g : ℕ) → g < q.columns → d * q.columns + g * 1 < length xs
row_within q x xs d is dw g gw =
    let rows = mul-le-mul_right q.columns dw in
    omega (arith, rows, length-quotients q x xs is)

pub column_within : (q : Question) (x : Divisors) (xs : List Quotient) (g : ℕ) → xs ≡ quotients q x → g < q.columns →
    (d : ℕ) → d < q.rows → g + d * q.columns < length xs
column_within q x xs g is gw d dw =
    let rows = mul-le-mul_right q.columns dw in
    omega (arith, rows, length-quotients q x xs is)
