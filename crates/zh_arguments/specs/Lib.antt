pub mod Arguments
pub mod Commands
pub mod Rules
pub mod Seats
pub mod Table
pub mod View
pub mod Votes
