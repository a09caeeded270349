pub mod Run
pub mod Joined
