pub mod CallerLemmas
mod AskedLemmas
mod BalanceLemmas
mod DistributionLemmas
mod GivenLemmas
mod NameLemmas
mod OneSheetLemmas
mod QuestionLemmas
mod ReasonLemmas
mod RefusalLemmas
mod SeatedLemmas
mod SheetLemmas
mod TargetLemmas
