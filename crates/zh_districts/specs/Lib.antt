pub mod Canton
pub mod Claims
pub mod Misplaced
pub mod Seats
pub mod SeatNames
pub mod Parts
pub mod Inside
pub mod Spelling
