-- The lemmas that crates above can use.
pub use Rattle.zh_tables.proofs.ProgressLemmas.{count_step, one_few}
