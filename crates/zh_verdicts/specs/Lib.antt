pub mod Parts
pub mod Right
pub mod Wrong
pub mod Quotient
pub mod Text
pub mod Checks
pub mod Reports
