-- The widths of the columns, with one more number each time.
use Rattle.std.proofs.Common.{◌≡◌, ◌+◌, ℕ, ap, ◌∙◌, sum_by}
use Rattle.std.specs.List.{fold, range_with_len}
use Rattle.std.proofs.lemmas.List.Sums.{fold_push, sum_by_push}
use Rattle.zh_sheet.proofs.CallerLemmas.{numbers_more}

pub fold_next : (f : ℕ → ℕ → ℕ) (a n : ℕ) → fold f a (range_with_len 1 (n + 1)) ≡ f (fold f a (range_with_len 1 n)) (n + 1)
fold_next f a n = ap (fold f a) (numbers_more n) ∙ fold_push f a (range_with_len 1 n) (n + 1)

pub sum_next : (f : ℕ → ℕ) (n : ℕ) → sum_by f (range_with_len 1 (n + 1)) ≡ sum_by f (range_with_len 1 n) + f (n + 1)
sum_next f n = ap (sum_by f) (numbers_more n) ∙ sum_by_push f (range_with_len 1 n) (n + 1)
