pub mod Returned
pub mod Quorums
pub mod Votes
pub mod SheetLines
pub mod Fields
pub mod Grids
