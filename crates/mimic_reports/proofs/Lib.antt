pub mod EnoughRows
pub mod Ids
pub mod PageLaws
pub mod Pages
pub mod Showing
pub mod SlowestFirst
pub mod Totals
