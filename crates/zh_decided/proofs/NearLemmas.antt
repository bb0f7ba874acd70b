-- Seats that are clear of every half, and matrices that are nearly tied.
use Rattle.std.proofs.Common.{◌≡◌, ℕ, ◌-◌, List, sym, ap, ◌∙◌, arith}
use Rattle.zh_divisors.specs.Rounding.{Rounds}
use Rattle.zh_matrices.specs.Divisors.{Divisors}
use Rattle.zh_matrices.specs.NearlyTied.{IsClear, IsNear, IsNearlyTied, NearlyRounds, RoundsClearly}
use Rattle.zh_matrices.specs.Question.{Question, cell}
use Rattle.zh_matrices.specs.SeatMatrix.{Follows, IsStrict, IsWeak, MayRound}
use Rattle.zh_matrices.proofs.CallerLemmas.{Separates, fewer_by, more_by, same_seats}

clear-near : Separates RoundsClearly NearlyRounds
clear-near = record {
  fewer = λ v k k' p p' s s' pos clear near le. fewer_by 131072 131073 v k k' p p' s s' pos clear.below_upper near.from_lower le;
  more = λ v k k' p p' s s' pos clear near le. more_by 131072 131073 v k k' p p' s s' pos clear.above_lower near.to_upper le;
}

-- if two matrices are nearly tied, no matrix is clear of every half
pub no_clear : (q : Question) (d g : ℕ) → IsNearlyTied q d g → (x : Divisors) (seats : List ℕ) → ¬ IsClear q x seats
no_clear q d g tie x seats clear =
    let one : tie.seats ≡ seats = same_seats RoundsClearly NearlyRounds clear-near q x tie.divisors seats tie.seats clear tie.tied.one in
    let other : tie.others ≡ seats = same_seats RoundsClearly NearlyRounds clear-near q x tie.divisors seats tie.others clear tie.tied.other in
    tie.tied.first.differ (ap (λ s. cell q.columns s (d - 1) (g - 1)) (one ∙ sym other))

-- seats that follow by one way of rounding also follow by a weaker one
follows-also : (P Q : ℕ → ℕ → ℕ → Type 0) → ((n p s : ℕ) → P n p s → Q n p s) → (q : Question) (x : Divisors) (seats : List ℕ) →
    Follows P q x seats → Follows Q q x seats
follows-also P Q also q x seats F = record {
  one_each = F.one_each;
  rows_add_up = F.rows_add_up;
  columns_add_up = F.columns_add_up;
  scale_positive = F.scale_positive;
  row_divisors = F.row_divisors;
  column_divisors = F.column_divisors;
  each_rounds = λ d g dm gn. also _ _ _ (F.each_rounds d g dm gn);
}

may_round-near : (n p s : ℕ) → MayRound n p s → NearlyRounds n p s
may_round-near n p s may = record {
  to_upper = omega (arith, may.to_upper);
  from_lower = λ some. omega (arith, may.from_lower some);
}

clear-rounds : (n p s : ℕ) → RoundsClearly n p s → Rounds n p s
clear-rounds n p s clear = record {
  below_upper = omega (arith, clear.below_upper);
  above_lower = λ some. omega (arith, clear.above_lower some);
}

pub weak-near : (q : Question) (x : Divisors) (seats : List ℕ) → IsWeak q x seats → IsNear q x seats
weak-near = follows-also MayRound NearlyRounds may_round-near

pub clear-strict : (q : Question) (x : Divisors) (seats : List ℕ) → IsClear q x seats → IsStrict q x seats
clear-strict = follows-also RoundsClearly Rounds clear-rounds
