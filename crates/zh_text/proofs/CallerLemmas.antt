-- The lemmas that crates above can use.
pub use Rattle.zh_text.proofs.EachLemmas.{each_to_next, gathered-next, range_more}
pub use Rattle.zh_text.proofs.NumberLemmas.{digits, divisor, is_put}
