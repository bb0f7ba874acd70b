-- The lemmas that crates above can use.
pub use Rattle.zh_decided.proofs.CheapestLemmas.{cheapest}
pub use Rattle.zh_decided.proofs.CircleLemmas.{around}
pub use Rattle.zh_decided.proofs.FirstBoxLemmas.{only-columns, only-rows}
pub use Rattle.zh_decided.proofs.ImpossibleLemmas.{fits-weak, no_divisors}
pub use Rattle.zh_decided.proofs.NearLemmas.{no_clear}
pub use Rattle.zh_decided.proofs.WithinLemmas.{at_most-at}
