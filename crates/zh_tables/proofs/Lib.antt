pub mod CallerLemmas
mod DueLemmas
mod ProblemLemmas
mod TextLemmas
mod ImplausibleLemmas
mod ProgressLemmas
mod StatusLemmas
