-- The lemmas that crates above can use.
pub use Rattle.zh_commands.proofs.LineLemmas.{desk_of-read}
