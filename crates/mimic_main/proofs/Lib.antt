pub mod Cases
pub mod FullNames
pub mod HandedOn
pub mod Mapped
pub mod Parts
pub mod SomeThread
pub mod TakenBack
