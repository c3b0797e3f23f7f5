mod Pages
mod Prepared
pub mod Theorems
