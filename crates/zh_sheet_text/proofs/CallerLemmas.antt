-- The lemmas that crates above can use.
pub use Rattle.zh_sheet_text.proofs.EachLemmas.{Each}
pub use Rattle.zh_sheet_text.proofs.LayoutLemmas.{IsLineOf, all_lines, is_laid_out, is_name_part, parts_at}
pub use Rattle.zh_sheet_text.proofs.LongestLemmas.{each_at_most, list_seats_small, seats_small, upper_small}
pub use Rattle.zh_sheet_text.proofs.PartLemmas.{last_of, marked_put}
