pub mod Constants
pub mod Theorems
pub mod Touched
