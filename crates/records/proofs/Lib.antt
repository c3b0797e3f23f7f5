pub mod Meanings
pub mod Heads
