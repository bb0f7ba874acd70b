mod BelowLemmas
pub mod CallerLemmas
mod ClaimLemmas
mod DivisorLemmas
mod FiniteSumLemmas
mod LastSeatLemmas
mod LineLemmas
mod LineRuleLemmas
mod LineSeatsLemmas
mod LineTotalsLemmas
mod NextSeatLemmas
mod OneFitLemmas
mod PassingLemmas
mod PlaceLemmas
mod RatioLemmas
mod SumLemmas
mod WorthLemmas
