pub mod Rows
pub mod Changes
mod Turns
mod Left
