pub mod Halves
pub mod Ranges
pub mod Refusals
pub mod UpperSeats
pub mod VoterNumbers
