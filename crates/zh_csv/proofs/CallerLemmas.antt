-- The lemmas that crates above can use.
pub use Rattle.zh_csv.proofs.CutLemmas.{EndsInPart, all_of_front}
pub use Rattle.zh_csv.proofs.LoadingLemmas.{is_loading, may_be, no_fault, readable_there}
pub use Rattle.zh_csv.proofs.ReadingLemmas.{never_cut, too_long}
pub use Rattle.zh_csv.proofs.RecordsLemmas.{all_first, all_once, are_first, begin_all}
