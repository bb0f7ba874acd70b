pub mod Asked
pub mod Divisors
pub mod Fitting
pub mod Lots
pub mod NearlyTied
pub mod Question
pub mod RoundingOf
pub mod SeatMatrix
