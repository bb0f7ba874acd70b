pub mod CallerLemmas
mod CommandLemmas
mod JudgedLemmas
mod KeptLemmas
mod MigrationLemmas
mod NightLemmas
mod OpenedLemmas
mod OpeningLemmas
mod OutsideLemmas
mod ReadyLemmas
mod ReopeningLemmas
mod ReplayLemmas
mod RoomLemmas
mod StandsLemmas
mod StretchLemmas
mod SubmissionLemmas
mod SwitchLemmas
