pub mod CallerLemmas
mod CantonLemmas
mod ClaimLemmas
mod ImageLemmas
mod LengthLemmas
mod MaskLemmas
mod OneSpellingLemmas
mod SpellingLemmas
