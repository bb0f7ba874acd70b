pub mod Totals
pub mod Counting
pub mod Parts
pub mod Changes
pub mod Inside
pub mod GivenVotes
pub mod Hidden
