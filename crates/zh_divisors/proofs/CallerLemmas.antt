-- The lemmas that crates above can use.
pub use Rattle.zh_divisors.proofs.BelowLemmas.{found_or_none}
pub use Rattle.zh_divisors.proofs.FiniteSumLemmas.{sum_to-suc, sum_to-ext, sum_to-zero, sum_to-le, sum_to-lt, sum_to-changed, sum_to-fewer, term-le-sum_to, positive_term}
pub use Rattle.zh_divisors.proofs.FiniteSumLemmas.{half_up-at_most, half_up-at_least, half_down-at_most}
pub use Rattle.zh_divisors.proofs.OneFitLemmas.{only_fit, no_strict_fit, weak_from_strict}
pub use Rattle.zh_divisors.proofs.PlaceLemmas.{cell-within, column_of, each_place, place-div, place-mod, row_of, same_place, same_table}
pub use Rattle.zh_divisors.proofs.RatioLemmas.{le_by_le, lt_by_le_lt, lt_by_lt_le}
pub use Rattle.zh_divisors.proofs.SumLemmas.{same-from_sum}
