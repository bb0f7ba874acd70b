pub mod CallerLemmas
mod LineLemmas
mod ReplyLemmas
mod RequestLemmas
mod SplitLemmas
