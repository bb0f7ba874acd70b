pub mod CallerLemmas
mod CellLemmas
mod MatrixPlaceLemmas
mod OneAnswerLemmas
mod OneSetLemmas
mod SumLemmas
mod TwoRoundingLemmas
