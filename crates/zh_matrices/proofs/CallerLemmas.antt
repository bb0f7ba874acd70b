-- The lemmas that crates above can use.
pub use Rattle.zh_matrices.proofs.CellLemmas.{fewer_by, more_by, one_if}
pub use Rattle.zh_matrices.proofs.MatrixPlaceLemmas.{few-in-cell, few-in-cells}
pub use Rattle.zh_matrices.proofs.OneAnswerLemmas.{no_seats, only_seats, weakened}
pub use Rattle.zh_matrices.proofs.OneSetLemmas.{differ_in_range, one_set}
pub use Rattle.zh_matrices.proofs.SumLemmas.{same_terms, sum_to-add, total, total-add, total-swap, weigh_columns, weigh_rows}
pub use Rattle.zh_matrices.proofs.TwoRoundingLemmas.{Separates, same_seats}
