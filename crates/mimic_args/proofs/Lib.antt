pub mod Accepted
pub mod ByNames
pub mod Declaring
pub mod Passed
pub mod Refusals
pub mod SameFaults
pub mod SameLines
pub mod SimpleLine
