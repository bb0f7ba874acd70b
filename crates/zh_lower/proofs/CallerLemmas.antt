-- The lemmas that crates above can use.
pub use Rattle.zh_lower.proofs.FilledLemmas.{started-replicate}
pub use Rattle.zh_lower.proofs.SeatingLemmas.{memory_refused}
pub use Rattle.zh_lower.proofs.ShownLemmas.{only_shown}
pub use Rattle.zh_matrices.proofs.CallerLemmas.{no_seats, only_seats}
