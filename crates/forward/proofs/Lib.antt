pub mod Theorems
pub mod Answers
pub mod Cases
mod Bytes
pub mod Changes
