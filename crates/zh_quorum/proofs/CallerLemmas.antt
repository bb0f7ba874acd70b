-- The lemmas that crates above can use.
pub use Rattle.zh_quorum.proofs.CantonVotesLemmas.{HasVotes, has_votes}
