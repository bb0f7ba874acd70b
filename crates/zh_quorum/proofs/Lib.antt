pub mod CallerLemmas
mod CantonVotesLemmas
mod ParticipatingLemmas
