pub mod Frames
pub mod Rows
pub mod Moments
pub mod Watched
pub mod Viewers
