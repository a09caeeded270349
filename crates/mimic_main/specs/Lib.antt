pub mod Ended
pub mod FullNames
pub mod Output
pub mod Policy
pub mod Program
pub mod Run
pub mod ShardVariables
pub mod Sharding
