pub mod Changes
pub mod Classes
pub mod Fates
pub mod Kept
pub mod Messages
pub mod Text
pub mod Trials
pub mod Written
