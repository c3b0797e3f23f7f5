pub mod Pins
pub mod Laws
