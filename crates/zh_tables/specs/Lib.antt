pub mod HeldRows
pub mod Faults
pub mod Problems
pub mod Returns
pub mod Tables
pub mod Progress
pub mod Implausible
pub mod Status
