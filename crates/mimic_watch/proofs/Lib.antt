pub mod Drawing
pub mod Plain
pub mod Seeing
pub mod Titles
pub mod Watches
