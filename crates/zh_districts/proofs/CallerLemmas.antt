-- The lemmas that crates above may use.
pub use Rattle.zh_districts.proofs.CantonLemmas.{municipality_within, list_within, placed, not_misplaced}
pub use Rattle.zh_districts.proofs.MaskLemmas.{mask_of-fits, mask_of-here, mask_of-not_here}
pub use Rattle.zh_districts.proofs.LengthLemmas.{is_name-short}
pub use Rattle.zh_districts.proofs.OneSpellingLemmas.{same_setup}
