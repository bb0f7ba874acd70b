mod ArgumentLemmas
pub mod CallerLemmas
mod RuleLemmas
mod TableLemmas
