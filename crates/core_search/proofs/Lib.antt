pub mod Cards
pub mod Entry
pub mod Theorems
