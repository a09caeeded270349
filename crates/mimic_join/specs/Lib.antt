pub mod Cut
pub mod Faults
pub mod Inputs
pub mod Joined
pub mod Turns
