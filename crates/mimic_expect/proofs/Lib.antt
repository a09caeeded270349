mod ChangedLines
mod Judged
mod Judgements
mod KeyedPlaces
mod KnownLines
pub mod KnownTexts
pub mod Laws
mod Meeting
mod Strangers
pub mod UpdatedTexts
mod Updates
mod Verdicts
