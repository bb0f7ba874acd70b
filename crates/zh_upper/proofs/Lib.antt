pub mod CallerLemmas
mod ClaimLemmas
mod HalfLemmas
mod ParticipantLemmas
mod RefusalLemmas
mod SpreadLemmas
mod VoterSumLemmas
