-- The rows and the columns of a question as lines.
use Rattle.std.proofs.Common.{◌≡◌, ℕ, zero, suc, ◌+◌, ◌*◌, ◌/◌, ◌^◌, ◌<◌, ◌≤◌, Bool, true, false, if◌then◌else◌, nat_le, List, length, get_or, slice_index, inl, inr, refl, sym, ap, ◌∙◌, arith}
use Rattle.std.proofs.lemmas.Bool.{cases_lt}
use Rattle.std.proofs.lemmas.List.{get_or_default}
use Rattle.std.proofs.lemmas.List.Elements.{All-from_get_or}
use Rattle.std.proofs.Math.ListN.{get_or-eq_default}
use Rattle.zh_divisors.specs.Line.{IsMatrixLine, half_up, half_down, half_up_total, half_down_total, least_passing, greatest_passing, limit_of, least_divisor, greatest_divisor, clamped, line_divisor}
use Rattle.zh_divisors.specs.Sums.{sum_to}
use Rattle.zh_divisors.proofs.CallerLemmas.{positive_term, sum_to-ext}
use Rattle.zh_matrices.specs.Divisors.{AreWithin}
use Rattle.zh_lower.specs.Outcomes.{IsProper}
use Rattle.zh_matrices.specs.Question.{IsSized, Question, cell, column_votes, row_votes}
use Rattle.zh_lower.specs.States.{is_unsettled, renewed}

least_passing-same : (p r : ℕ → Bool) (limit : ℕ) → ((D : ℕ) → p D ≡ r D) → least_passing p limit ≡ least_passing r limit
least_passing-same p r zero same = refl
least_passing-same p r (suc limit) same =
    rw (least_passing-same p r limit same, same (least_passing r limit)) refl

greatest_passing-same : (p r : ℕ → Bool) (limit : ℕ) → ((D : ℕ) → p D ≡ r D) → greatest_passing p limit ≡ greatest_passing r limit
greatest_passing-same p r zero same = refl
greatest_passing-same p r (suc limit) same =
    rw (greatest_passing-same p r limit same, same (suc limit)) refl

half_up_total-same : (n : ℕ) (v w others : ℕ → ℕ) (D : ℕ) → ((i : ℕ) → i < n → v i ≡ w i) →
    half_up_total n v others D ≡ half_up_total n w others D
half_up_total-same n v w others D same =
    sum_to-ext n _ _ (λ i lt. ap (λ x. half_up (x * 10 ^ 12) (others i * D)) (same i lt))

half_down_total-same : (n : ℕ) (v w others : ℕ → ℕ) (D : ℕ) → ((i : ℕ) → i < n → v i ≡ w i) →
    half_down_total n v others D ≡ half_down_total n w others D
half_down_total-same n v w others D same =
    sum_to-ext n _ _ (λ i lt. ap (λ x. half_down (x * 10 ^ 12) (others i * D)) (same i lt))

-- the divisor of a line depends only on its first n votes
line_divisor-same : (n : ℕ) (v w others : ℕ → ℕ) (total most : ℕ) → ((i : ℕ) → i < n → v i ≡ w i) →
    line_divisor n v others total most ≡ line_divisor n w others total most
unfolding limit_of
line_divisor-same n v w others total most same =
    let limit : limit_of n v ≡ limit_of n w = ap (λ x. 2 * 10 ^ 12 * x) (sum_to-ext n v w same) in
    let least : least_divisor n v others total ≡ least_divisor n w others total
    = least_passing-same _ _ (limit_of n v) (λ D. ap (λ x. nat_le x total) (half_up_total-same n v w others D same))
    ∙ ap (λ l. least_passing (λ D. nat_le (half_up_total n w others D) total) l) limit in
    let greatest : greatest_divisor n v others total ≡ greatest_divisor n w others total
    = greatest_passing-same _ _ (limit_of n v) (λ D. ap (λ x. nat_le total x) (half_down_total-same n v w others D same))
    ∙ ap (λ l. greatest_passing (λ D. nat_le total (half_down_total n w others D)) l) limit in
    ap (λ x. clamped most ((x + greatest_divisor n v others total) / 2)) least
    ∙ ap (λ x. clamped most ((least_divisor n w others total + x) / 2)) greatest

-- n votes, one of them positive, with the divisors of the crossing lines
IsMatrixLine-of : (n most : ℕ) (f : ℕ → ℕ) (votes others : List ℕ) → n ≤ 32 → most ≤ 10 ^ 18 → length votes ≡ n →
    ((i : ℕ) → i < n → get_or votes i 0 ≡ f i) → ((i : ℕ) → i < n → f i ≤ 10 ^ 14) → 0 < sum_to n f →
    AreWithin n most others → IsMatrixLine votes others
IsMatrixLine-of n most f votes others few wide long at small some divisors = record {
  at_most_32 = omega arith;
  same_length = divisors.one_each ∙ sym long;
  some_vote =
      let (i, lt, positive) = positive_term n f some in
      let there : 0 < get_or votes i 0 = rw (at i lt) positive in
      (i, get_or votes i 0, omega arith, get_or_default votes i (get_or votes i 0) 0 (omega arith), there);
  each_vote = All-from_get_or (λ v. v ≤ 10 ^ 14) votes 0 (λ i lt. rw (at i (omega arith)) (small i (omega arith)));
  each_positive = divisors.from_1;
  each_other = All-from_get_or (λ o. o ≤ 10 ^ 18) others 0 (λ i lt. omega (arith, divisors.at_most i 0 lt));
}

-- no vote is above the limit
pub each_vote : (q : Question) → IsSized q → (k : ℕ) → get_or q.votes k 0 ≤ 10 ^ 14
each_vote q sized k = elim (cases_lt k (length q.votes)) [
  | inl inside ↦ sized.each_vote k 0 inside
  | inr outside ↦ rw (get_or-eq_default q.votes 0 outside) (omega arith)
]

each_cell : (q : Question) → IsSized q → (d g : ℕ) → cell q.columns q.votes d g ≤ 10 ^ 14
each_cell q sized d g = each_vote q sized (d * q.columns + g)

pub row_line : (q : Question) (d : ℕ) (row of_columns : List ℕ) → IsSized q → IsProper q → d < q.rows → length row ≡ q.columns →
    ((g : ℕ) → g < q.columns → get_or row g 0 ≡ row_votes q d g) → AreWithin q.columns (10 ^ 12) of_columns → IsMatrixLine row of_columns
row_line q d row of_columns sized proper within long at divisors =
    IsMatrixLine-of q.columns (10 ^ 12) (row_votes q d) row of_columns sized.few_columns (omega arith) long at
    (λ g _. each_cell q sized d g) (proper.row_votes d within) divisors

pub column_line : (q : Question) (g : ℕ) (column of_rows : List ℕ) → IsSized q → IsProper q → g < q.columns → length column ≡ q.rows →
    ((d : ℕ) → d < q.rows → get_or column d 0 ≡ column_votes q g d) → AreWithin q.rows (10 ^ 18) of_rows → IsMatrixLine column of_rows
column_line q g column of_rows sized proper within long at divisors =
    IsMatrixLine-of q.rows (10 ^ 18) (column_votes q g) column of_rows sized.few_rows (omega arith) long at
    (λ d _. each_cell q sized d g) (proper.column_votes g within) divisors

-- what the code computes from its lists is the divisor of the definition
pub started_is : (n total most : ℕ) (f : ℕ → ℕ) (votes others starts : List ℕ) (value : ℕ) → length votes ≡ n →
    ((i : ℕ) → i < n → get_or votes i 0 ≡ f i) → others ≡ starts →
    value ≡ line_divisor (length votes) (slice_index votes) (slice_index others) total most →
    value ≡ line_divisor n f (slice_index starts) total most
started_is n total most f votes others starts value long at same is =
    is ∙ ap (λ m. line_divisor m (slice_index votes) (slice_index others) total most) long
    ∙ line_divisor-same n (slice_index votes) f (slice_index others) total most at
    ∙ ap (λ xs. line_divisor n f (slice_index xs) total most) same

-- a divisor by the rule of a line is within its limits
line_divisor-within : (most x value : ℕ) → 1 ≤ most → value ≡ clamped most x → (1 ≤ value) × (value ≤ most)
line_divisor-within most x value some is = (omega arith, omega arith)

-- the divisor of an unsettled line after a half-step
pub record IsRenewedBy (most value renewed : ℕ) : Type 0 where
  pub is : value ≡ renewed
  pub from_1 : 1 ≤ value
  pub at_most : value ≤ most

pub renewed_by_line : (n total most : ℕ) (f : ℕ → ℕ) (votes others : List ℕ) (E value : ℕ) → 1 ≤ most → length votes ≡ n →
    ((i : ℕ) → i < n → get_or votes i 0 ≡ f i) → is_unsettled n f (slice_index others) total E ≡ true →
    value ≡ line_divisor (length votes) (slice_index votes) (slice_index others) total most →
    IsRenewedBy most value (renewed n f (slice_index others) total most E)
renewed_by_line n total most f votes others E value some long at unsettled is =
    let (from_1, at_most) = line_divisor-within most _ value some is in
    record {
      is = started_is n total most f votes others others value long at refl is
          ∙ ap (λ b. if b then line_divisor n f (slice_index others) total most else E) (sym unsettled);
      from_1 = from_1;
      at_most = at_most;
    }

-- a settled line keeps its divisor
pub renewed_kept : (n total most : ℕ) (f : ℕ → ℕ) (others : List ℕ) (E : ℕ) → is_unsettled n f (slice_index others) total E ≡ false →
    E ≡ renewed n f (slice_index others) total most E
renewed_kept n total most f others E settled =
    ap (λ b. if b then line_divisor n f (slice_index others) total most else E) (sym settled)
