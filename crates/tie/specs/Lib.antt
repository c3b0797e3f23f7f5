pub mod Tie
pub mod Blocks
