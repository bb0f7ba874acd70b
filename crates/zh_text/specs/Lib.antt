pub mod Each
pub mod Names
pub mod Numbers
pub mod Shown
pub mod Signs
