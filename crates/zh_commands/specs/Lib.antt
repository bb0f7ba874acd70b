pub mod Words
pub mod Forms
pub mod Lines
pub mod Commands
pub mod Replies
