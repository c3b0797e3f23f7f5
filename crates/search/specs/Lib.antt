pub mod Search
pub mod Pins
pub mod Cone
