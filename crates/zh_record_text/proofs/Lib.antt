pub mod CallerLemmas
mod EachLemmas
mod RecordLemmas
