pub mod Arguments
pub mod Line
pub mod Matched
pub mod CommandLine
