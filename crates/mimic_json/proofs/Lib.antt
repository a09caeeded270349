pub mod Escapes
pub mod Times
pub mod Members
pub mod Objects
pub mod Lines
