-- The lemmas that crates above can use.
pub use Rattle.zh_record_text.proofs.EachLemmas.{Puts-element}
pub use Rattle.zh_record_text.proofs.RecordLemmas.{Appends-join, Appends-none, Puts-join, Puts-none, Written-more}
