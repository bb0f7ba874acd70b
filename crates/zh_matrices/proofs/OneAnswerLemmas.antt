-- Two matrices with the same totals, one of which is strict.
use Rattle.std.proofs.Common.{◌≡◌, ◌≢◌, ℕ, List, sym, ◌∙◌}
use Rattle.std.proofs.Math.Nat.{le_of_lt}
use Rattle.zh_divisors.specs.Rounding.{Rounds}
use Rattle.zh_matrices.specs.Divisors.{Divisors}
use Rattle.zh_matrices.specs.Question.{Question}
use Rattle.zh_matrices.specs.SeatMatrix.{IsStrict, IsWeak, MayRound}
use Rattle.zh_matrices.proofs.CellLemmas.{fewer, more}
use Rattle.zh_matrices.proofs.TwoRoundingLemmas.{Separates, same_seats}

strict-weak : Separates Rounds MayRound
strict-weak = record { fewer = fewer; more = more }

-- under any other divisors the seats are the same
pub only_seats : (q : Question) (x y : Divisors) (s t : List ℕ) → IsStrict q x s → IsWeak q y t → t ≡ s
only_seats q x y s t S W = same_seats Rounds MayRound strict-weak q x y s t S W

-- if two different matrices follow from the same divisors, no matrix is strict under any divisors
pub no_seats : (q : Question) (x : Divisors) (s t : List ℕ) → IsWeak q x s → IsWeak q x t → s ≢ t →
    (y : Divisors) (u : List ℕ) → ¬ IsStrict q y u
no_seats q x s t S T differ y u strict = differ (only_seats q y x u s strict S ∙ sym (only_seats q y x u t strict T))

pub weakened : (q : Question) (x : Divisors) (s : List ℕ) → IsStrict q x s → IsWeak q x s
weakened q x s S = record {
  one_each = S.one_each;
  rows_add_up = S.rows_add_up;
  columns_add_up = S.columns_add_up;
  scale_positive = S.scale_positive;
  row_divisors = S.row_divisors;
  column_divisors = S.column_divisors;
  each_rounds = λ d g dm gn. record {
    to_upper = le_of_lt (S.each_rounds d g dm gn).below_upper;
    from_lower = λ some. le_of_lt ((S.each_rounds d g dm gn).above_lower some);
  };
}
