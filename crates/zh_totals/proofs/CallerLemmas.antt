-- The lemmas that crates above may use.
pub use Rattle.zh_totals.proofs.TotalsLemmas.{group_within, constituency_within, constituency_most, group_most}
pub use Rattle.zh_totals.proofs.BoundLemmas.{few_votes, AreTotals-of}
pub use Rattle.zh_totals.proofs.ChangeLemmas.{votes_can, entry_noted}
pub use Rattle.zh_totals.proofs.ChangeLemmas.{next_noted}
pub use Rattle.zh_totals.proofs.RestrictingLemmas.{before_first, next_not_held, next_municipality, after_last}
pub use Rattle.zh_totals.proofs.HiddenLemmas.{none_hidden}
pub use Rattle.zh_totals.proofs.NotingLemmas.{votes_counted}
