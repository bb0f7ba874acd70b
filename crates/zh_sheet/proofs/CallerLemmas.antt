-- The lemmas that crates above may use.
pub use Rattle.zh_sheet.proofs.SeatedLemmas.{IsSeated, at_seated_votes, first_seated, numbers_more, seated_are, seated_no, seated_yes}
pub use Rattle.zh_sheet.proofs.AskedLemmas.{can_be_asked, few_seated}
pub use Rattle.zh_sheet.proofs.GivenLemmas.{few_given, made_given, made_open, one_result}
pub use Rattle.zh_sheet.proofs.NameLemmas.{read_back, refusal_named}
pub use Rattle.zh_sheet.proofs.OneSheetLemmas.{AreSameAbove, same_above, same_asked, same_parts}
pub use Rattle.zh_sheet.proofs.RefusalLemmas.{memory_answer}
pub use Rattle.zh_sheet.proofs.SheetLemmas.{name_short, targets}
pub use Rattle.zh_sheet.proofs.TargetLemmas.{same_seats, same_sums, same_taking}
