pub mod CallerLemmas
mod BoundLemmas
mod ChangeLemmas
mod CommandLemmas
mod EntryLemmas
mod GivenVotesLemmas
mod HiddenLemmas
mod NotingLemmas
mod PlaceLemmas
mod RestrictingLemmas
mod TotalsLemmas
