-- Rounds of rising rows and falling columns have only one result.
use Rattle.std.proofs.Common.{◌≡◌, ℕ, zero, suc, ◌+◌, ◌<◌, ◌≤◌, List, length, get_or, set, refl, sym, ◌∙◌, arith, add-one}
use Rattle.std.proofs.lemmas.List.{ext_get_or, get_or-set_other}
use Rattle.std.proofs.Math.Nat.{le_antisymm}
use Rattle.zh_matrices.specs.Divisors.{Divisors}
use Rattle.zh_matrices.specs.Question.{Question}
use Rattle.zh_lower.specs.Extremes.{AreOutermost, ComeTo, IfIn, IsGreatestColumn, IsLeastRow, IsRound}
use Rattle.zh_lower.specs.declared.extremes.Move.{Move}
use Rattle.zh_lower.specs.declared.extremes.Move.TheVariants.{Moved, Out, Still}

pub none-yet : (q : Question) (top : ℕ) (seats : List ℕ) (x : Divisors) → AreOutermost q top x → ComeTo q top seats 0 x
unfolding ComeTo
none-yet q top seats x at = at

pub one-more : (q : Question) (top : ℕ) (seats : List ℕ) (n : ℕ) (x y : Divisors) → ComeTo q top seats n x → IsRound q seats x y →
    ComeTo q top seats (n + 1) y
unfolding ComeTo
one-more q top seats n x y come round = rw add-one (x, come, round)

pub if-in : (move : Move) (claim : Type 0) → (move ≡ Out → ⊥) → IfIn move claim → claim
if-in Out claim there given = absurd (there refl)
if-in Still claim there given = given
if-in Moved claim there given = given

-- if a round moves nothing, neither do more rounds
pub so-many-more : (q : Question) (top : ℕ) (seats : List ℕ) (n m : ℕ) (x : Divisors) → ComeTo q top seats n x → IsRound q seats x x →
    ComeTo q top seats (n + m) x
so-many-more q top seats n zero x come round = let e : n + 0 ≡ n = omega arith in rw e come
so-many-more q top seats n (suc m) x come round =
    let e : n + suc m ≡ n + m + 1 = omega arith in
    rw e (one-more q top seats (n + m) x x (so-many-more q top seats n m x come round) round)

pub stands-still : (q : Question) (seats : List ℕ) (x y : Divisors) → y.of_columns ≡ x.of_columns → IsRound q seats x y → IsRound q seats y y
stands-still q seats x y same round = record {
  rows = λ d dm. record {
    at_least = omega arith;
    below = rw same (round.rows d dm).below;
    least = λ other more below. more;
  };
  columns = λ g gn. record {
    at_most = omega arith;
    above = (round.columns g gn).above;
    greatest = λ other less above. less;
  };
}

-- the same numbers in each line
record AreSame (q : Question) (x y : Divisors) : Type 0 where
  rows : (d : ℕ) → d < q.rows → get_or x.of_rows d 0 ≡ get_or y.of_rows d 0
  columns : (g : ℕ) → g < q.columns → get_or x.of_columns g 0 ≡ get_or y.of_columns g 0

no-higher : (q : Question) (seats columns others : List ℕ) (d before other_before after other_after : ℕ) →
    ((g : ℕ) → g < q.columns → get_or columns g 0 ≡ get_or others g 0) → before ≡ other_before →
    IsLeastRow q seats columns d before after → IsLeastRow q seats others d other_before other_after → after ≤ other_after
no-higher q seats columns others d before other_before after other_after same from one other =
    one.least other_after (omega (arith, other.at_least)) (λ g gn. rw (same g gn) (other.below g gn))

no-lower : (q : Question) (seats rows others : List ℕ) (g before other_before after other_after : ℕ) →
    ((d : ℕ) → d < q.rows → get_or rows d 0 ≡ get_or others d 0) → before ≡ other_before →
    IsGreatestColumn q seats rows g before after → IsGreatestColumn q seats others g other_before other_after → other_after ≤ after
no-lower q seats rows others g before other_before after other_after same from one other =
    one.greatest other_after (omega (arith, other.at_most)) (λ d dm has. rw (same d dm) (other.above d dm has))

same-round : (q : Question) (seats : List ℕ) (x y after other : Divisors) → AreSame q x y → IsRound q seats x after → IsRound q seats y other →
    AreSame q after other
same-round q seats x y after other same one also =
    let rows : (d : ℕ) → d < q.rows → get_or after.of_rows d 0 ≡ get_or other.of_rows d 0 = λ d dm. le_antisymm
    (no-higher q seats x.of_columns y.of_columns d (get_or x.of_rows d 0) (get_or y.of_rows d 0) (get_or after.of_rows d 0) (get_or other.of_rows d 0)
    same.columns (same.rows d dm) (one.rows d dm) (also.rows d dm))
    (no-higher q seats y.of_columns x.of_columns d (get_or y.of_rows d 0) (get_or x.of_rows d 0) (get_or other.of_rows d 0) (get_or after.of_rows d 0)
    (λ g gn. sym (same.columns g gn)) (sym (same.rows d dm)) (also.rows d dm) (one.rows d dm)) in
    record {
      rows = rows;
      columns = λ g gn. le_antisymm
          (no-lower q seats other.of_rows after.of_rows g (get_or y.of_columns g 0) (get_or x.of_columns g 0) (get_or other.of_columns g 0)
          (get_or after.of_columns g 0) (λ d dm. sym (rows d dm)) (sym (same.columns g gn)) (also.columns g gn) (one.columns g gn))
          (no-lower q seats after.of_rows other.of_rows g (get_or x.of_columns g 0) (get_or y.of_columns g 0) (get_or after.of_columns g 0)
          (get_or other.of_columns g 0) rows (same.columns g gn) (one.columns g gn) (also.columns g gn));
    }

same-end : (q : Question) (top : ℕ) (seats : List ℕ) (n : ℕ) (x y : Divisors) → ComeTo q top seats n x → ComeTo q top seats n y → AreSame q x y
unfolding ComeTo
same-end q top seats zero x y one other = record {
  rows = λ d dm. one.rows d dm ∙ sym (other.rows d dm);
  columns = λ g gn. one.columns g gn ∙ sym (other.columns g gn);
}
same-end q top seats (suc n) x y one other =
    same-round q seats one.0 other.0 x y (same-end q top seats n one.0 other.0 one.1 other.1) one.2 other.2

-- n rounds reach only these rows and columns
pub only-rows : (q : Question) (top : ℕ) (seats : List ℕ) (n : ℕ) (x y : Divisors) → ComeTo q top seats n x → ComeTo q top seats n y →
    length x.of_rows ≡ q.rows → length y.of_rows ≡ q.rows → y.of_rows ≡ x.of_rows
only-rows q top seats n x y one other long also =
    ext_get_or 0 y.of_rows x.of_rows (also ∙ sym long) (λ d lt. (same-end q top seats n y x other one).rows d (omega arith))

pub only-columns : (q : Question) (top : ℕ) (seats : List ℕ) (n : ℕ) (x y : Divisors) → ComeTo q top seats n x → ComeTo q top seats n y →
    length x.of_columns ≡ q.columns → length y.of_columns ≡ q.columns → y.of_columns ≡ x.of_columns
only-columns q top seats n x y one other long also =
    ext_get_or 0 y.of_columns x.of_columns (also ∙ sym long) (λ g lt. (same-end q top seats n y x other one).columns g (omega arith))

-- the lines that are not set yet
pub others-set : (i value : ℕ) (before xs : List ℕ) → ((k : ℕ) → i ≤ k → get_or xs k 0 ≡ get_or before k 0) →
    (k : ℕ) → i + 1 ≤ k → get_or (set xs i value) k 0 ≡ get_or before k 0
others-set i value before xs same k more = get_or-set_other xs i k value 0 (omega arith) ∙ same k (omega arith)
