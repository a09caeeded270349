pub mod RunReports
pub mod ShardRuns
pub mod JoinedRuns
pub mod Selections
pub mod ShardLaws
