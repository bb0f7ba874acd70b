pub mod Quorum
