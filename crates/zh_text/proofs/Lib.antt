pub mod CallerLemmas
mod EachLemmas
mod NumberLemmas
mod ShownLemmas
mod DecimalLemmas
mod WriteLemmas
