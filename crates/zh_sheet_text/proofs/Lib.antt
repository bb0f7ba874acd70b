pub mod CallerLemmas
mod EachLemmas
mod LayoutLemmas
mod LongestLemmas
mod PartLemmas
mod PrintingLemmas
mod TextLemmas
mod WidthLemmas
