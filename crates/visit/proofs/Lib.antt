pub mod Sources
pub mod Totals
mod Cells
mod Visits
mod Turns
mod Searches
