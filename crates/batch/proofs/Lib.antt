pub mod Theorems
mod Answers
