mod Counting
mod FirstLines
mod Found
mod Laws
mod Ranks
mod Steps
